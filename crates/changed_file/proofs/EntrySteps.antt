-- Entries that are put one by one.
use Rattle.std.specs.Prelude.{◌≡◌, ℕ, zero, suc, ◌+◌, ◌*◌, ◌/◌, ◌%◌, ◌<◌, ◌≤◌, ◌==◌, ◌&&◌, Bool, true, false, not, ℤ, pos, List, [], ◌∷◌, ◌++◌, length, map, flat_map, take, drop, Some, None, slice_get, option_map, get_or, set}
use Rattle.std.specs.List.{AllByRecursion, enumerate_from}
use Rattle.std.specs.Ordering.{int_eq}
use Rattle.std.proofs.Common.{refl, sym, ◌∙◌, ap, subst, arith, append_assoc}
use Rattle.iges_base.proofs.Lists.{open_at}
use Rattle.std.proofs.lemmas.Bool.{eqb-true}
use Rattle.std.proofs.lemmas.Bool.Decides.{Decides-int_eq}
use Rattle.std.proofs.lemmas.Option.{none-some, same_Some}
use Rattle.std.proofs.lemmas.List.{append-nil, drop_all, length-set, take_all, map-append}
use Rattle.std.proofs.lemmas.List.FromFn.{length-enumerate_from}
use Rattle.iges_directory.specs.declared.entry.Entry.{Entry}
use Rattle.iges_fields.specs.declared.value.Value.{Value}
use Rattle.iges_params.specs.Contents.{Contents}
use Rattle.iges_params.specs.Made.{IsMade, IsMadeEntry}
use Rattle.iges_params.specs.Named.{kind_of, named}
use Rattle.iges_params.proofs.NamedEntries.{named_used}
use Rattle.entry_references.specs.Refs.{Record}
use Rattle.entry_references.proofs.NamedRecords.{named_place}
use Rattle.iges_params.proofs.Copies.{one_more}
use Rattle.changed_file.specs.Emptied.{AreMarksOf, emptied, emptied_record, all_refs, names_number, refs_of, unless_gone}

half : (i : ℕ) → (2 * i + 1) / 2 ≡ i
half i = omega arith

odd : (i : ℕ) → (2 * i + 1) % 2 ≡ 0 → ⊥
odd i e = omega (arith, e)

pub at_named : (f : Contents) (i : ℕ) (r : Record) → named f (pos (2 * i + 1)) ≡ Some r → slice_get f.entries i ≡ Some r
at_named f i r h = ap (slice_get f.entries) (sym (half i)) ∙ (named_place f (2 * i + 1) r h).1

each_at : {X : Type 0} (P : X → Type 0) (xs : List X) (i : ℕ) (x : X) → AllByRecursion P xs → slice_get xs i ≡ Some x → P x
each_at P [] i x all at = absurd (none-some x at)
each_at P (y ∷ ys) zero x all at = let same : y ≡ x = cc in subst P same all.0
each_at P (y ∷ ys) (suc i) x all at = each_at P ys i x all.1 at

-- an entry that has no name is of type 0, and has no values
pub at_unnamed : (f : Contents) (i : ℕ) (r : Record) → IsMade f → slice_get f.entries i ≡ Some r → named f (pos (2 * i + 1)) ≡ None → r.1 ≡ []
at_unnamed f i r made at none = by_kind (int_eq r.0.kind (pos 0)) refl
  where
    by_kind : (b : Bool) → int_eq r.0.kind (pos 0) ≡ b → r.1 ≡ []
    by_kind true e = let entry : IsMadeEntry r = each_at IsMadeEntry f.entries i r made.entries at in entry.unused e
    by_kind false e =
        absurd (none-some r (sym none
        ∙ sym (named_used kind_of f.entries (2 * i + 1) r (odd i) (ap (slice_get f.entries) (half i) ∙ at)
        (λ z. let yes : int_eq r.0.kind (pos 0) ≡ true = (Decides-int_eq r.0.kind (pos 0)).1 z in absurd cc))))

-- ---- entries

pub get_enumerated : {X : Type 0} (n : ℕ) (xs : List X) (i : ℕ) (x : X) → slice_get xs i ≡ Some x → slice_get (enumerate_from n xs) i ≡ Some (n + i, x)
get_enumerated n [] i x at = absurd (none-some x at)
get_enumerated n (y ∷ ys) zero x at = let none : n ≡ n + 0 = omega arith in let same : y ≡ x = cc in ap (λ k. Some (k, y)) none ∙ ap (λ z. Some (n + 0, z)) same
get_enumerated n (y ∷ ys) (suc i) x at = let on : n + 1 + i ≡ n + suc i = omega arith in get_enumerated (n + 1) ys i x at ∙ ap (λ k. Some (k, x)) on

pub mapped_next : (h : ℕ × Record → Record) (entries : List Record) (i : ℕ) (r out : Record) (es new : List Record) → slice_get entries i ≡ Some r
    → h (i, r) ≡ out → es ≡ map h (take i (enumerate_from 0 entries)) → new ≡ es ++ out ∷ [] → new ≡ map h (take (i + 1) (enumerate_from 0 entries))
mapped_next h entries i r out es new at is before en =
    let none : 0 + i ≡ i = omega arith in
    let one : take (i + 1) (enumerate_from 0 entries) ≡ take i (enumerate_from 0 entries) ++ (i, r) ∷ [] =
    one_more (enumerate_from 0 entries) i (i, r) (get_enumerated 0 entries i r at ∙ ap (λ j. Some (j, r)) none) in
    en ∙ (ap (λ (xs : List Record). xs ++ out ∷ []) before
    ∙ (ap (λ (x : Record). map h (take i (enumerate_from 0 entries)) ++ x ∷ []) (sym is)
    ∙ (sym (map-append h (take i (enumerate_from 0 entries)) ((i, r) ∷ [])) ∙ ap (map h) (sym one))))

pub mapped_all : (h : ℕ × Record → Record) (entries : List Record) (i : ℕ) (es : List Record) → length entries ≤ i
    → es ≡ map h (take i (enumerate_from 0 entries)) → es ≡ map h (enumerate_from 0 entries)
mapped_all h entries i es past e =
    e ∙ ap (map h) (take_all i (enumerate_from 0 entries) (omega (arith, past, length-enumerate_from 0 entries)))

-- what an entry is, by its fields and by its values
pub here_is : (entries : List Record) (i : ℕ) (r : Record) (F : Record → List Value) (e : _) (vs : List Value) → slice_get entries i ≡ Some r
    → Some e ≡ option_map (λ (q : Record). q.0) (slice_get entries i) → option_map F (slice_get entries i) ≡ Some vs → (r.0 ≡ e) × (F r ≡ vs)
here_is entries i r F e vs at fields values =
    let one : Some e ≡ Some r.0 = fields ∙ ap (option_map (λ (q : Record). q.0)) at in
    let two : Some (F r) ≡ Some vs = sym (ap (option_map F) at) ∙ values in
    (let same : r.0 ≡ e = cc in same, let same : F r ≡ vs = cc in same)

-- ---- none of them is gone

stays : (us : List ℤ) (k : ℕ) (es : List Record) → map (emptied_record [] us) (enumerate_from k es) ≡ es
stays us k [] = refl
stays us k (e ∷ es) = ap (λ (xs : List Record). e ∷ xs) (stays us (k + 1) es)

pub none_of : (ns : List ℤ) (b : Bool) → b ≡ (length ns == 0) → b ≡ true → ns ≡ []
none_of [] b e t = refl
none_of (n ∷ ns) b e t = let none : length (n ∷ ns) ≡ 0 = eqb-true (length (n ∷ ns)) 0 (sym e ∙ t) in absurd (omega (arith, none))

pub emptied_none : (f : Contents) → f ≡ emptied [] f
unfolding emptied
emptied_none f = ap (λ (es : List Record). let g : Contents = record { start = f.start; global = f.global; entries = es } in g) (sym (stays (all_refs f) 0 f.entries))

pub file_is : (old new : Contents) (es : List Record) → new.start ≡ old.start → new.global ≡ old.global → new.entries ≡ es → new ≡ record old { entries = es }
file_is old new es a b e = λ j. record { start = a j; global = b j; entries = e j }

-- ---- what an entry refers to

pub refs_named : (f : Contents) (i m : ℕ) (q r : Record) (out new : List ℤ) → m ≡ 2 * i + 1 → named f (pos m) ≡ Some q → slice_get f.entries i ≡ Some r
    → new ≡ out ++ refs_of f q → new ≡ out ++ refs_of f r
refs_named f i m q r out new odd_is is at e =
    e ∙ ap (λ (x : Record). out ++ refs_of f x) (same_Some q r (sym (at_named f i q (ap (λ k. named f (pos k)) (sym odd_is) ∙ is)) ∙ at))

pub refs_unnamed : (f : Contents) (i m : ℕ) (e : Entry) (vs : List Value) (r : Record) (out new : List ℤ) → IsMade f → m ≡ 2 * i + 1
    → named f (pos m) ≡ None → slice_get f.entries i ≡ Some r → Some e ≡ option_map (λ (q : Record). q.0) (slice_get f.entries i) → vs ≡ []
    → new ≡ out ++ refs_of f (e, vs) → new ≡ out ++ refs_of f r
refs_unnamed f i m e vs r out new made odd_is none at fields ev is =
    let one : e ≡ r.0 = same_Some e r.0 (fields ∙ ap (option_map (λ (q : Record). q.0)) at) in
    let empty : r.1 ≡ [] = at_unnamed f i r made at (ap (λ k. named f (pos k)) (sym odd_is) ∙ none) in
    is ∙ (ap (λ (x : Entry). out ++ refs_of f (x, vs)) one ∙ ap (λ (ws : List Value). out ++ refs_of f (r.0, ws)) (ev ∙ sym empty))

-- ---- entries that are gone

pub gone_is : (ns us : List ℤ) (gone used : List Bool) (i : ℕ) (r : Record) (b : Bool) → get_or gone i false ≡ names_number ns (2 * i + 1)
    → get_or used i false ≡ names_number us (2 * i + 1) → b ≡ (get_or gone i false && not (get_or used i false))
    → emptied_record ns us (i, r) ≡ unless_gone b r
gone_is ns us gone used i r b eg eu is =
    ap (λ a. unless_gone (a && not (names_number us (2 * i + 1))) r) (sym eg)
    ∙ (ap (λ a. unless_gone (get_or gone i false && not a) r) (sym eu) ∙ ap (λ a. unless_gone a r) (sym is))

-- ---- what an item gives, put behind what those before it gave, where the list may have changed up to it

pub flat_end : {X Y : Type 0} (g : X → List Y) (xs : List X) (i : ℕ) (out all : List Y) → length xs ≤ i → out ++ flat_map g (drop i xs) ≡ all → out ≡ all
flat_end {X} {Y} g xs i out all past inv =
    sym (append-nil out) ∙ (sym (ap (λ (zs : List X). out ++ flat_map g zs) (drop_all i xs past)) ∙ inv)

pub put_next : {X Y : Type 0} (g : X → List Y) (xs ys : List X) (i : ℕ) (x : X) (out new all : List Y) → slice_get xs i ≡ Some x
    → drop (i + 1) ys ≡ drop (i + 1) xs → new ≡ out ++ g x → out ++ flat_map g (drop i xs) ≡ all → new ++ flat_map g (drop (i + 1) ys) ≡ all
put_next {X} {Y} g xs ys i x out new all at left en inv =
    ap (λ (zs : List X). new ++ flat_map g zs) left
    ∙ (ap (λ (zs : List Y). zs ++ flat_map g (drop (i + 1) xs)) en
    ∙ (append_assoc out (g x) (flat_map g (drop (i + 1) xs)) ∙ (sym (ap (λ (zs : List X). out ++ flat_map g zs) (open_at xs i x at)) ∙ inv)))

-- ---- a file from which the values of one entry after the other are taken

-- the entries from a place on are as they were
pub record IsEmptied (f g : Contents) (i : ℕ) : Type 0 where
  pub long : length g.entries ≡ length f.entries
  pub rest : (j : ℕ) → i ≤ j → slice_get g.entries j ≡ slice_get f.entries j

pub none_emptied : (f : Contents) → IsEmptied f f 0
none_emptied f = record { long = refl; rest = λ j le. refl }

get_later : {X : Type 0} (xs : List X) (i j : ℕ) (x : X) → i < j → slice_get (set xs i x) j ≡ slice_get xs j
get_later [] i j x lt = refl
get_later (y ∷ ys) zero zero x lt = absurd (omega (arith, lt))
get_later (y ∷ ys) zero (suc j) x lt = refl
get_later (y ∷ ys) (suc i) zero x lt = absurd (omega (arith, lt))
get_later (y ∷ ys) (suc i) (suc j) x lt = get_later ys i j x (omega (arith, lt))

pub next_emptied : (f g next : Contents) (i : ℕ) (e : Entry) → IsEmptied f g i → next ≡ record g { entries = set g.entries i (e, []) }
    → IsEmptied f next (i + 1)
next_emptied f g next i e h same = record {
  long = ap (λ (x : Contents). length x.entries) same ∙ (length-set g.entries i (e, []) ∙ h.long);
  rest = λ j le. ap (λ (x : Contents). slice_get x.entries j) same
      ∙ (get_later g.entries i j (e, []) (omega (arith, le)) ∙ h.rest j (omega (arith, le)));
}

-- ---- the file without them

abbrev with_entries : Contents → List Record → Contents
with_entries x es = record { start = x.start; global = x.global; entries = es }

pub emptied_so : (f b new : Contents) (ns zs : List ℤ) (gone gone_slice used used_slice : List Bool) (count : ℕ) → count ≡ length f.entries
    → gone_slice ≡ gone → used_slice ≡ used → zs ≡ all_refs f → AreMarksOf gone ns count → AreMarksOf used zs count → b ≡ record f { entries = [] }
    → ((xs ys : List ℤ) → AreMarksOf gone_slice xs (length f.entries) → AreMarksOf used_slice ys (length f.entries)
    → new ≡ record b { entries = map (emptied_record xs ys) (enumerate_from 0 f.entries) }) → new ≡ emptied ns f
unfolding emptied
emptied_so f b new ns zs gone gone_slice used used_slice count ec eg eu ez marks_gone marks_used eb made =
    let g : AreMarksOf gone_slice ns (length f.entries) =
    subst (λ (n : ℕ). AreMarksOf gone_slice ns n) ec (subst (λ (m : List Bool). AreMarksOf m ns count) (sym eg) marks_gone) in
    let u : AreMarksOf used_slice zs (length f.entries) =
    subst (λ (n : ℕ). AreMarksOf used_slice zs n) ec (subst (λ (m : List Bool). AreMarksOf m zs count) (sym eu) marks_used) in
    made ns zs g u
    ∙ (ap (λ (x : Contents). with_entries x (map (emptied_record ns zs) (enumerate_from 0 f.entries))) eb
    ∙ ap (λ (ys : List ℤ). with_entries f (map (emptied_record ns ys) (enumerate_from 0 f.entries))) ez)
