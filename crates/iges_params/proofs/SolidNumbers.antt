-- The numbers of the solids of a file, one entry after another.
use Rattle.std.proofs.Common.{◌≡◌, ℕ, ◌+◌, ◌*◌, ◌<◌, Bool, true, false, List, [], ◌∷◌, ◌++◌, drop, length, pos, sym, ap, ◌∙◌, append_assoc}
use Rattle.std.specs.Prelude.{if◌then◌else◌}
use Rattle.std.specs.Ordering.{int_eq}
use Rattle.std.proofs.lemmas.List.{map-append}
use Rattle.iges_base.specs.declared.entry_no.EntryNo.{EntryNo}
use Rattle.iges_base.proofs.Lists.{open_at, some_at}
use Rattle.iges_params.specs.Contents.{Contents}
use Rattle.iges_params.specs.Solids.{is_solid_at, is_solid_entry, numbers_of, solids_from}

abbrev rest_from : Contents → ℕ → List ℕ
rest_from f i = solids_from i (drop i f.entries)

next_entry : (f : Contents) (i : ℕ) (b : Bool) → i < length f.entries → is_solid_at f i ≡ b →
    rest_from f i ≡ (if b then (2 * i + 1) ∷ rest_from f (i + 1) else rest_from f (i + 1))
next_entry f i b lt is =
    let e = some_at f.entries i lt in
    let test : int_eq e.0.0.kind (pos 186) ≡ b = ap is_solid_entry (sym e.1) ∙ is in
    ap (solids_from i) (open_at f.entries i e.0 e.1) ∙ ap (λ (t : Bool). if t then (2 * i + 1) ∷ rest_from f (i + 1) else rest_from f (i + 1)) test

pub other_entry : (f : Contents) (i : ℕ) (list : List EntryNo) → i < length f.entries → is_solid_at f i ≡ false →
    numbers_of list ++ rest_from f (i + 1) ≡ numbers_of list ++ rest_from f i
other_entry f i list lt is = ap (λ (ns : List ℕ). numbers_of list ++ ns) (sym (next_entry f i false lt is))

pub solid_entry : (f : Contents) (i : ℕ) (n : EntryNo) (old new : List EntryNo) → i < length f.entries → is_solid_at f i ≡ true → n.0 ≡ 2 * i + 1 →
    new ≡ old ++ n ∷ []
    → numbers_of new ++ rest_from f (i + 1) ≡ numbers_of old ++ rest_from f i
solid_entry f i n old new lt is number grown =
    let rest : List ℕ = rest_from f (i + 1) in
    let pushed : numbers_of new ≡ numbers_of old ++ n.0 ∷ [] = ap numbers_of grown ∙ map-append (λ (x : EntryNo). x.0) old (n ∷ []) in
    let next : (n.0 ∷ rest) ≡ rest_from f i = ap (λ (m : ℕ). m ∷ rest) number ∙ sym (next_entry f i true lt is) in
    ap (λ (ns : List ℕ). ns ++ rest) pushed ∙ append_assoc (numbers_of old) (n.0 ∷ []) rest ∙ ap (λ (ns : List ℕ). numbers_of old ++ ns) next
