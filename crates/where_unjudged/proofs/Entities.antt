-- The members that are named, and those that aren't, entry by entry.
use Rattle.std.specs.Prelude.{◌≡◌, ℕ, zero, suc, length, ◌+◌, ◌-◌, ◌<◌, Bool, true, false, not, ◌||◌, ◌&&◌, pos}
use Rattle.std.specs.Prelude.{List, [], ◌∷◌, ◌++◌, map, filter, flat_map, if◌then◌else◌}
use Rattle.std.specs.List.{list_any}
use Rattle.std.proofs.Common.{refl, sym, ap, ◌∙◌, arith, get_or}
use Rattle.std.proofs.Math.Bool.{or_assoc}
use Rattle.std.proofs.lemmas.List.Folds.{list_any-append}
use Rattle.iges_base.specs.declared.entry_no.EntryNo.{EntryNo}
use Rattle.iges_params.specs.Contents.{Contents}
use Rattle.iges_params.specs.Named.{named}
use Rattle.solid_data.specs.Ring.{numbers_from}
use Rattle.where_text.proofs.Steps.{piece_more}
use Rattle.where_unjudged.specs.declared.member.Member.{Member}
use Rattle.where_unjudged.specs.Loose.{is_loose, is_member, is_named, members_of, number_at}
use Rattle.where_unjudged.specs.Named.{is_at}

-- one of so many entities from a place on names the k-th entry
abbrev pub named_from : Member → Contents → ℕ → ℕ → ℕ → Bool
named_from m f k i count = list_any (is_at k) (flat_map (members_of m f) (map number_at (numbers_from i count)))

-- those of so many entities from a place on that aren't named
abbrev pub loose_from : Member → Contents → ℕ → ℕ → List EntryNo
loose_from m f i count = map number_at (filter (is_loose m f) (numbers_from i count))

-- one entity more marks what it names
pub named_more : (m : Member) (f : Contents) (k count i : ℕ) (n : EntryNo) (old new all : Bool) → i < count → n ≡ number_at i
    → new ≡ (old || list_any (is_at k) (members_of m f n)) → (old || named_from m f k i (count - i)) ≡ all
    → (new || named_from m f k (i + 1) (count - (i + 1))) ≡ all
named_more m f k count i n old new all lt is put h =
    let more : count - i ≡ suc (count - (i + 1)) = omega arith in
    let here : Bool = list_any (is_at k) (members_of m f (number_at i)) in
    let rest : Bool = named_from m f k (i + 1) (count - (i + 1)) in
    let split : named_from m f k i (count - i) ≡ (here || rest) =
    ap (λ n. named_from m f k i n) more
    ∙ list_any-append (is_at k) (members_of m f (number_at i)) (flat_map (members_of m f) (map number_at (numbers_from (i + 1) (count - (i + 1))))) in
    ap (λ b. b || rest) (put ∙ ap (λ (e : EntryNo). old || list_any (is_at k) (members_of m f e)) is)
    ∙ (or_assoc old here rest ∙ (ap (λ b. old || b) (sym split) ∙ h))

chosen : (t : Bool) (i : ℕ) (is : List ℕ) → map number_at (if t then i ∷ is else is) ≡ (if t then number_at i ∷ [] else []) ++ map number_at is
chosen true i is = refl
chosen false i is = refl

-- one entity more is looked at
pub loose_more : (m : Member) (f : Contents) (count i : ℕ) (n : EntryNo) (t : Bool) (old new all : List EntryNo) → i < count → n ≡ number_at i
    → t ≡ is_loose m f i → new ≡ old ++ (if t then n ∷ [] else []) → old ++ loose_from m f i (count - i) ≡ all
    → new ++ loose_from m f (i + 1) (count - (i + 1)) ≡ all
loose_more m f count i n t old new all lt is test put h =
    let more : count - i ≡ suc (count - (i + 1)) = omega arith in
    let rest : List EntryNo = loose_from m f (i + 1) (count - (i + 1)) in
    let here : List EntryNo = if is_loose m f i then number_at i ∷ [] else [] in
    let split : loose_from m f i (count - i) ≡ here ++ rest =
    ap (λ n. loose_from m f i n) more ∙ chosen (is_loose m f i) i (filter (is_loose m f) (numbers_from (i + 1) (count - (i + 1)))) in
    let added : new ≡ old ++ here =
    put ∙ (ap (λ (e : EntryNo). old ++ (if t then e ∷ [] else [])) is ∙ ap (λ b. old ++ (if b then number_at i ∷ [] else [])) test) in
    piece_more old new here rest all (ap (λ ns. old ++ ns) (sym split) ∙ h) added

apart : (us : List Bool) (i : ℕ) (a b : Bool) → i < length us → get_or us i a ≡ get_or us i b
apart [] i a b h = absurd (omega (arith, h))
apart (u ∷ us) zero a b h = refl
apart (u ∷ us) (suc i) a b h = apart us i a b (omega (arith, h))

-- whether an entity is one that isn't named, by its mark
pub loose_is : (m : Member) (f : Contents) (marks : List Bool) (i : ℕ) (n : EntryNo) (t b : Bool) → i < length marks → n ≡ number_at i
    → b ≡ get_or marks i b → get_or marks i false ≡ is_named m f i → t ≡ (is_member m (named f (pos n.0)) && not b) → t ≡ is_loose m f i
loose_is m f marks i n t b lt is at marked test =
    test ∙ (ap (λ (e : EntryNo). is_member m (named f (pos e.0)) && not b) is
    ∙ ap (λ x. is_member m (named f (pos (number_at i).0)) && not x) (at ∙ (apart marks i b false lt ∙ marked)))
