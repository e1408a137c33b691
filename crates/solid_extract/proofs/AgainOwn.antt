-- A record that was extracted has the own values that it had.
use Rattle.std.specs.Prelude.{◌≡◌, ◌⊎◌, ℕ, ◌≤◌, Bool, true, false, ◌&&◌, nat_le, List, [], ◌∷◌, ◌++◌, length, take, Option, Some, None, if◌then◌else◌}
use Rattle.std.specs.Prelude.{unwrap_or}
use Rattle.std.specs.List.{AllByRecursion, enumerate_from, list_all}
use Rattle.std.proofs.Common.{refl, ap, subst, ◌∙◌, arith, length-append, length-take}
use Rattle.std.proofs.lemmas.Bool.{and_from, and_parts, cond-true, le-leb, leb-true}
use Rattle.std.proofs.lemmas.List.{length-map}
use Rattle.std.proofs.lemmas.List.FromFn.{length-enumerate_from}
use Rattle.std.proofs.lemmas.Option.{none-some, same_Some}
use Rattle.iges_fields.specs.declared.value.Value.{Value}
use Rattle.entry_references.specs.EntrySets.{is_among}
use Rattle.entry_references.specs.Layout.{Layout, Own, value_at, count_of, is_count, is_choice, is_pointer, counts_at, own_in}
use Rattle.solid_extract.specs.Extracted.{new_value}
use Rattle.solid_extract.proofs.AgainLayouts.{IsPlace, ArePlaces, IsCountPlace, IsSound}
use Rattle.solid_extract.proofs.AgainValues.{olds, value_again, value_kept, pointer_kept}

-- ---- parts of a test

pub all_parts : {X : Type 0} (P : X → Type 0) (xs ys : List X) → AllByRecursion P (xs ++ ys) → AllByRecursion P xs × AllByRecursion P ys
all_parts P [] ys h = (tt, h)
all_parts P (x ∷ xs) ys h = let on = all_parts P xs ys h.1 in ((h.0, on.0), on.1)

module _ (l : Layout) (vs : List Value) where
  abbrev tested : Bool
  tested = list_all (λ k. is_count vs (value_at vs k)) l.counts && list_all (λ k. is_choice (value_at vs k)) l.choices

  abbrev own_by : List ℕ → Own
  own_by ns = record { count = l.own ns; pointers = l.pointers ns; cut = l.cut }

  abbrev pointers_tested : List ℕ → Bool
  pointers_tested ns = list_all (λ k. is_pointer (value_at vs k)) (l.pointers ns ++ l.cut)

  abbrev own_from : Bool → List ℕ → Option Own
  own_from b ns = elim b as (λ _. Option Own) [ true ↦ if pointers_tested ns then Some (own_by ns) else None | false ↦ None ]

  own_parts : (own : Own) (ns : List ℕ) → own_from tested ns ≡ Some own → (tested ≡ true) × (pointers_tested ns ≡ true) × (own_by ns ≡ own)
  own_parts own ns e = by_test tested refl e
    where
      by_pointers : (b : Bool) → pointers_tested ns ≡ b → (if b then Some (own_by ns) else None) ≡ Some own → (pointers_tested ns ≡ true) × (own_by ns ≡ own)
      by_pointers true t k = (t, same_Some (own_by ns) own k)
      by_pointers false t k = absurd (none-some own k)

      by_test : (b : Bool) → tested ≡ b → own_from b ns ≡ Some own → (tested ≡ true) × (pointers_tested ns ≡ true) × (own_by ns ≡ own)
      by_test true t k = let p = by_pointers (pointers_tested ns) refl k in (t, p.0, p.1)
      by_test false t k = absurd (none-some own k)

counts_same : (vs ws : List Value) (ks : List ℕ) → AllByRecursion (λ k. value_at ws k ≡ value_at vs k) ks → counts_at ws ks ≡ counts_at vs ks
counts_same vs ws [] h = refl
counts_same vs ws (k ∷ ks) h = ap (λ (v : Value). unwrap_or (count_of v) 0 ∷ counts_at ws ks) h.0
    ∙ ap (λ (ns : List ℕ). unwrap_or (count_of (value_at vs k)) 0 ∷ ns) (counts_same vs ws ks h.1)

choices_same : (vs ws : List Value) (ks : List ℕ) → AllByRecursion (λ k. value_at ws k ≡ value_at vs k) ks → list_all (λ k. is_choice (value_at ws k)) ks
    ≡ list_all (λ k. is_choice (value_at vs k)) ks
choices_same vs ws [] h = refl
choices_same vs ws (k ∷ ks) h = ap (λ (v : Value). is_choice v && list_all (λ j. is_choice (value_at ws j)) ks) h.0
    ∙ ap (λ (b : Bool). is_choice (value_at vs k) && b) (choices_same vs ws ks h.1)

-- a count that is no more than both the own values and the values stays a count
abbrev counted_in : ℕ → Option ℕ → Bool
counted_in n o = elim o as (λ _. Bool) [ Some m ↦ nat_le m n | None ↦ false ]

count_stays : (a b c : ℕ) (o : Option ℕ) → ((n : ℕ) → n ≤ a → n ≤ c → n ≤ b) → unwrap_or o 0 ≤ c → counted_in a o ≡ true → counted_in b o ≡ true
count_stays a b c None least few h = h
count_stays a b c (Some n) least few h = le-leb n b (least n (leb-true n a h) few)

counts_stay : (vs ws : List Value) (c : ℕ) (ks : List ℕ) → ((n : ℕ) → n ≤ length vs → n ≤ c → n ≤ length ws)
    → AllByRecursion (λ k. value_at ws k ≡ value_at vs k) ks
    → AllByRecursion (λ k. unwrap_or (count_of (value_at vs k)) 0 ≤ c) ks → list_all (λ k. is_count vs (value_at vs k)) ks ≡ true
    → list_all (λ k. is_count ws (value_at ws k)) ks ≡ true
counts_stay vs ws c [] least same few h = refl
counts_stay vs ws c (k ∷ ks) least same few h =
    let p = and_parts (is_count vs (value_at vs k)) (list_all (λ j. is_count vs (value_at vs j)) ks) h in
    and_from (is_count ws (value_at ws k)) (list_all (λ j. is_count ws (value_at ws j)) ks)
    (ap (is_count ws) same.0 ∙ count_stays (length vs) (length ws) c (count_of (value_at vs k)) least few.0 p.0) (counts_stay vs ws c ks least same.1 few.1 p.1)

module _ (kept : List ℕ) (own : Own) (vs tail : List Value) (full : (own.count ≤ length vs) ⊎ (tail ≡ [])) where
  abbrev again : List Value
  again = olds kept own 1 (take own.count vs) ++ tail

  pub again_long : (n : ℕ) → n ≤ length vs → n ≤ own.count → n ≤ length (olds kept own 1 (take own.count vs) ++ tail)
  again_long n a b =
      let long : length (olds kept own 1 (take own.count vs)) ≡ length (take own.count vs) =
      length-map (enumerate_from 1 (take own.count vs)) (λ (v : ℕ × Value). new_value kept own v.0 v.1) ∙ length-enumerate_from 1 (take own.count vs) in
      omega (arith, a, b, long, length-take own.count vs, length-append (olds kept own 1 (take own.count vs)) tail)

  pointers_stay : (ks : List ℕ) → ArePlaces own.count ks → list_all (λ k. is_pointer (value_at vs k)) ks ≡ true
      → list_all (λ k. is_pointer (value_at again k)) ks ≡ true
  pointers_stay [] places h = refl
  pointers_stay (k ∷ ks) places h =
      let p = and_parts (is_pointer (value_at vs k)) (list_all (λ j. is_pointer (value_at vs j)) ks) h in
      and_from (is_pointer (value_at again k)) (list_all (λ j. is_pointer (value_at again j)) ks)
      (ap is_pointer (value_again kept own vs tail own.count k places.0.0 places.0.1 full) ∙ pointer_kept kept own k (value_at vs k) p.0)
      (pointers_stay ks places.1 p.1)

  module _ (l : Layout) (ns : List ℕ) (is : record { count = l.own ns; pointers = l.pointers ns; cut = l.cut } ≡ own) where
    places_same : (ks : List ℕ) → AllByRecursion (IsCountPlace l ns) ks → AllByRecursion (λ k. value_at again k ≡ value_at vs k) ks
    places_same [] h = tt
    places_same (k ∷ ks) h = (
      value_again kept own vs tail own.count k h.0.0 (subst (λ (o : Own). k ≤ o.count) is h.0.1) full
          ∙ value_kept kept own k (value_at vs k) (subst (λ (o : Own). is_among o.pointers k ≡ false) is h.0.2)
          (subst (λ (o : Own). is_among o.cut k ≡ false) is h.0.3),
      places_same ks h.1,
    )

pub layout_again : (kept : List ℕ) (own : Own) (vs tail : List Value) → (own.count ≤ length vs) ⊎ (tail ≡ []) → (l : Layout) → IsSound l
    → own_in l vs ≡ Some own → own_in l (olds kept own 1 (take own.count vs) ++ tail) ≡ Some own
layout_again kept own vs tail full l sound e =
    let parts = own_parts l vs own (counts_at vs (l.counts ++ l.choices)) e in
    let same = places_same kept own vs tail full l (counts_at vs (l.counts ++ l.choices)) parts.2 (l.counts ++ l.choices)
    (sound.counts (counts_at vs (l.counts ++ l.choices))) in
    let both = all_parts (λ k. value_at (olds kept own 1 (take own.count vs) ++ tail) k ≡ value_at vs k) l.counts l.choices same in
    let tests = and_parts (list_all (λ k. is_count vs (value_at vs k)) l.counts) (list_all (λ k. is_choice (value_at vs k)) l.choices) parts.0 in
    let few = subst (λ (o : Own). AllByRecursion (λ k. unwrap_or (count_of (value_at vs k)) 0 ≤ o.count) l.counts) parts.2 (sound.enough vs) in
    let counts = counts_stay vs (olds kept own 1 (take own.count vs) ++ tail) own.count l.counts (again_long kept own vs tail full) both.0 few tests.0 in
    let choices = choices_same vs (olds kept own 1 (take own.count vs) ++ tail) l.choices both.1 ∙ tests.1 in
    let numbers = counts_same vs (olds kept own 1 (take own.count vs) ++ tail) (l.counts ++ l.choices) same in
    let places = subst (λ (o : Own). ArePlaces o.count (l.pointers (counts_at vs (l.counts ++ l.choices)) ++ l.cut)) parts.2
    (sound.pointers (counts_at vs (l.counts ++ l.choices))) in
    let pointers = pointers_stay kept own vs tail full (l.pointers (counts_at vs (l.counts ++ l.choices)) ++ l.cut) places parts.1 in
    ap (λ (b : Bool). own_from l (olds kept own 1 (take own.count vs) ++ tail) b
    (counts_at (olds kept own 1 (take own.count vs) ++ tail) (l.counts ++ l.choices)))
    (and_from (list_all (λ k. is_count (olds kept own 1 (take own.count vs) ++ tail) (value_at (olds kept own 1 (take own.count vs) ++ tail) k)) l.counts)
    (list_all (λ k. is_choice (value_at (olds kept own 1 (take own.count vs) ++ tail) k)) l.choices) counts choices)
    ∙ (ap (own_from l (olds kept own 1 (take own.count vs) ++ tail) true) numbers
    ∙ (cond-true (pointers_tested l (olds kept own 1 (take own.count vs) ++ tail) (counts_at vs (l.counts ++ l.choices)))
    (Some (own_by l vs (counts_at vs (l.counts ++ l.choices)))) None pointers
    ∙ ap (λ (o : Own). Some o) parts.2))

-- the pointers of a layout stand among the own values
pub layout_places : (own : Own) (vs : List Value) (l : Layout) → IsSound l → own_in l vs ≡ Some own → ArePlaces own.count own.pointers
layout_places own vs l sound e =
    let parts = own_parts l vs own (counts_at vs (l.counts ++ l.choices)) e in
    let both = all_parts (IsPlace (l.own (counts_at vs (l.counts ++ l.choices)))) (l.pointers (counts_at vs (l.counts ++ l.choices))) l.cut
    (sound.pointers (counts_at vs (l.counts ++ l.choices))) in
    subst (λ (o : Own). ArePlaces o.count o.pointers) parts.2 both.0
