-- Marks of places, and the parts of a record.
use Rattle.std.specs.Prelude.{◌≡◌, ◌⊎◌, ℕ, zero, suc, ◌+◌, ◌<◌, ◌≤◌, ◌==◌, Bool, true, false, ◌||◌, List, [], ◌∷◌, ◌++◌, length, map, take, min}
use Rattle.std.specs.Prelude.{set, Some, if◌then◌else◌, slice_get, slice_index_or}
use Rattle.std.specs.List.{enumerate_from}
use Rattle.std.proofs.Common.{refl, sym, ap, ◌∙◌, arith, get_or, length-take, append_assoc, inl, inr}
use Rattle.std.proofs.Math.Bool.{or-false}
use Rattle.std.proofs.lemmas.Bool.{cases_lt, ne_eqb}
use Rattle.std.proofs.lemmas.List.{take_more, take_all, map-append, length-set, set_past, append-nil}
use Rattle.std.proofs.lemmas.Option.{get_or_from_slice_get, slice_get_within}
use Rattle.iges_fields.specs.declared.value.Value.{Value}
use Rattle.iges_fields.specs.declared.value.Value.TheVariants as value
use Rattle.entry_references.specs.EntrySets.{is_among}
use Rattle.entry_references.specs.Layout.{Own}
use Rattle.entry_references.proofs.KindPlaces.{enumerate_append}
use Rattle.entry_references.proofs.Marks.{get_set, both_next, zero_other, among_push}
use Rattle.record_numbers.specs.EqualRecords.{Part, part_at}
use Rattle.record_numbers.specs.Parts.{AreMarkedPlaces, with_mark, part_as, said, said_all}
use Rattle.record_numbers.specs.declared.told.Part.{Part as Held}

-- ---- marks of places

marked_one : (ms : List Bool) (place i : ℕ) → i < length ms → slice_index_or (with_mark ms place) i false ≡ (slice_index_or ms i false || (place == i + 1))
marked_one ms zero i lt =
    let one : suc i ≡ i + 1 = omega arith in
    sym (ap (λ (b : Bool). slice_index_or ms i false || b) (ap (λ (k : ℕ). 0 == k) (sym one) ∙ zero_other i) ∙ or-false (slice_index_or ms i false))
marked_one ms (suc k) i lt = by_order (cases_lt k (length ms))
  where
    same : (suc k == i + 1) ≡ (k == i)
    same = let one : i + 1 ≡ suc i = omega arith in ap (λ (j : ℕ). suc k == j) one ∙ both_next k i

    by_order : (k < length ms) ⊎ (length ms ≤ k) → slice_index_or (set ms k true) i false ≡ (slice_index_or ms i false || (suc k == i + 1))
    by_order (inr past) =
        let far : (k == i) ≡ false = ne_eqb k i (λ e. omega (arith, e, past, lt)) in
        ap (λ (xs : List Bool). slice_index_or xs i false) (set_past ms k true past)
        ∙ sym (ap (λ (b : Bool). slice_index_or ms i false || b) (same ∙ far) ∙ or-false (slice_index_or ms i false))
    by_order (inl below) = get_set ms k i below ∙ ap (λ (b : Bool). slice_index_or ms i false || b) (sym same)

mark_long : (ms : List Bool) (place : ℕ) → length (with_mark ms place) ≡ length ms
mark_long ms zero = refl
mark_long ms (suc k) = length-set ms k true

pub mark_next : (ms new : List Bool) (ps : List ℕ) (i count place : ℕ) → i < length ps → place ≡ get_or ps i 0 → new ≡ with_mark ms place
    → AreMarkedPlaces ms (take i ps) count → AreMarkedPlaces new (take (i + 1) ps) count
mark_next ms new ps i count place lt read en h = record {
  long = ap length en ∙ (mark_long ms place ∙ h.long);
  marked = λ j below.
      ap (λ (xs : List Bool). slice_index_or xs j false) en
      ∙ (marked_one ms place j (omega (arith, below, h.long))
      ∙ (ap (λ (b : Bool). b || (place == j + 1)) (h.marked j below)
      ∙ (ap (λ (x : ℕ). is_among (take i ps) (j + 1) || (x == j + 1)) read
      ∙ (sym (among_push (take i ps) (get_or ps i 0) (j + 1)) ∙ ap (λ (xs : List ℕ). is_among xs (j + 1)) (sym (take_more ps i 0 lt))))));
}

-- ---- the parts

part_is : (own : Own) (k : ℕ) (p c : Bool) (v : Value) → p ≡ is_among own.pointers k → c ≡ is_among own.cut k → part_as p c v ≡ part_at own k v
part_is own k p c v ep ec = ap (λ (b : Bool). part_as b c v) ep ∙ ap (λ (b : Bool). part_as (is_among own.pointers k) b v) ec

abbrev pub own_parts : Own → List Value → List Part
own_parts own vs = map (λ (v : ℕ × Value). part_at own v.0 v.1) (enumerate_from 1 vs)

pub next_part : (own : Own) (vs : List Value) (i : ℕ) (v : Value) (p c : Bool) (front list new : List Part) → slice_get vs i ≡ Some v
    → p ≡ is_among own.pointers (i + 1) → c ≡ is_among own.cut (i + 1)
    → list ≡ front ++ own_parts own (take i vs) → new ≡ list ++ part_as p c v ∷ []
    → new ≡ front ++ own_parts own (take (i + 1) vs)
next_part own vs i v p c front list new at ep ec inv en =
    let lt : i < length vs = slice_get_within vs i v at in
    let got : get_or vs i value.Default ≡ v = get_or_from_slice_get vs i v value.Default at in
    let long : 1 + length (take i vs) ≡ i + 1 = omega (arith, length-take i vs, lt) in
    let opened : own_parts own (take (i + 1) vs) ≡ own_parts own (take i vs) ++ part_as p c v ∷ [] =
    ap (own_parts own) (take_more vs i value.Default lt)
    ∙ (ap (map (λ (v : ℕ × Value). part_at own v.0 v.1)) (enumerate_append 1 (take i vs) (get_or vs i value.Default ∷ []))
    ∙ (map-append (λ (v : ℕ × Value). part_at own v.0 v.1) (enumerate_from 1 (take i vs)) ((1 + length (take i vs), get_or vs i value.Default) ∷ [])
    ∙ (ap (λ (x : Value). own_parts own (take i vs) ++ part_at own (1 + length (take i vs)) x ∷ []) got
    ∙ (ap (λ (n : ℕ). own_parts own (take i vs) ++ part_at own n v ∷ []) long
    ∙ ap (λ (x : Part). own_parts own (take i vs) ++ x ∷ []) (sym (part_is own (i + 1) p c v ep ec)))))) in
    en ∙ (ap (λ (xs : List Part). xs ++ part_as p c v ∷ []) inv
    ∙ (append_assoc front (own_parts own (take i vs)) (part_as p c v ∷ []) ∙ ap (λ (xs : List Part). front ++ xs) (sym opened)))

pub said_push : (old new : List Held) (x : Held) (p : Part) → new ≡ old ++ x ∷ [] → said x ≡ p → said_all new ≡ said_all old ++ p ∷ []
said_push old new x p en is = ap (map said) en ∙ (map-append said old (x ∷ []) ∙ ap (λ (y : Part). said_all old ++ y ∷ []) is)
