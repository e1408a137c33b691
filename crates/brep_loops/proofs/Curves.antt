-- Tuples of a loop's record, and their curves.
use Rattle.std.specs.Prelude.{◌≡◌, ◌≢◌, ℕ, zero, suc, ◌+◌, ◌-◌, ◌*◌, ◌^◌, ◌<◌, ◌≤◌, ◌&&◌, Bool, true, false, ℤ, List, [], ◌∷◌, length, map, take, drop, Option}
use Rattle.std.specs.Prelude.{Some, None, slice_get, option_map}
use Rattle.std.proofs.Common.{refl, sym, ◌∙◌, ap, subst, arith, lit<}
use Rattle.std.proofs.lemmas.List.{drop-drop, length-drop}
use Rattle.iges_fields.specs.declared.value.Value.{Value}
use Rattle.iges_fields.specs.declared.value.Value.TheVariants.{Default}
use Rattle.brep_lists.specs.Record.{int_of, flag_of, count_of, value_or_default, int_at, flag_at, count_at, groups, curve_read, tuple_read, tuples_read}
use Rattle.brep_lists.specs.Groups.{passes, group_passes, groups_pass, tuple_passes, tuples_pass}
use Rattle.brep_lists.specs.Views.{AreEnds}
use Rattle.brep_lists.specs.declared.groups.Slot.{Slot}
use Rattle.brep_lists.specs.declared.groups.Slot.TheVariants.{Whole, Flag}
use Rattle.brep_lists.proofs.Places.{may_count}
use Rattle.brep_lists.proofs.Tuples.{curve_shape}
use Rattle.brep_lists.proofs.Views.{value_after, item_at, items_past, read_at}
use Rattle.brep_lists.proofs.Fitting.{and_left, and_right}

past_value : (vs : List Value) (i : ℕ) → length vs ≤ i → value_or_default vs i ≡ Default
past_value [] i h = refl
past_value (v ∷ vs) zero h = absurd (omega (arith, h))
past_value (v ∷ vs) (suc i) h = past_value vs i (omega (arith, h))

past_drop : (vs : List Value) (i : ℕ) → length vs ≤ i → drop i vs ≡ []
past_drop [] zero h = refl
past_drop [] (suc i) h = refl
past_drop (v ∷ vs) zero h = absurd (omega (arith, h))
past_drop (v ∷ vs) (suc i) h = past_drop vs i (omega (arith, h))

pub no_count : (vs : List Value) (place curves : ℕ) → length vs ≤ place → curves ≡ count_at vs place
    → (groups_pass curve_shape curves (drop (place + 1) vs) ≡ true) × (drop place vs ≡ drop (place + (1 + curves * 2)) vs) ×
    (0 < curves → place + (1 + curves * 2) < 2 ^ 64)
no_count vs place curves h e =
    let none : curves ≡ 0 = e ∙ ap count_of (past_value vs place h) in (
      ap (λ n. groups_pass curve_shape n (drop (place + 1) vs)) none,
      past_drop vs place h ∙ sym (past_drop vs (place + (1 + curves * 2)) (omega (arith, h))),
      λ some. absurd (omega (arith, none, some)),
    )

abbrev tuple_shape : List Slot
tuple_shape = Flag ∷ Whole ∷ Whole ∷ Flag ∷ []

count_place : (vs : List Value) (at place : ℕ) → place ≡ at + 4 → value_or_default (drop at vs) 4 ≡ value_or_default vs place
count_place vs at place e = value_after at 4 vs ∙ ap (value_or_default vs) (sym e)

tuple_is : (vs : List Value) (at place curves : ℕ) → group_passes tuple_shape (drop at vs) ≡ true → place ≡ at + 4 → curves ≡ count_at vs place
    → tuple_passes (drop at vs) ≡ (may_count (value_or_default vs place) && groups_pass curve_shape curves (drop (place + 1) vs))
tuple_is vs at place curves g e h =
    let next : at + 5 ≡ place + 1 = omega (arith, e) in
    ap (λ b. b && (may_count (value_or_default (drop at vs) 4) && groups_pass curve_shape (count_of (value_or_default (drop at vs) 4)) (drop 5 (drop at vs)))) g
    ∙ ap (λ w. may_count w && groups_pass curve_shape (count_of w) (drop 5 (drop at vs))) (count_place vs at place e)
    ∙ ap (λ n. may_count (value_or_default vs place) && groups_pass curve_shape n (drop 5 (drop at vs))) (sym h)
    ∙ ap (λ ws. may_count (value_or_default vs place) && groups_pass curve_shape curves ws) (drop-drop 5 at vs ∙ ap (λ k. drop k vs) next)

pub bad_count : (vs : List Value) (at place : ℕ) → group_passes tuple_shape (drop at vs) ≡ true → place ≡ at + 4 →
    may_count (value_or_default vs place) ≡ false → tuple_passes (drop at vs) ≡ false
bad_count vs at place g e f = tuple_is vs at place (count_at vs place) g e refl ∙ ap
    (λ b. b && groups_pass curve_shape (count_at vs place) (drop (place + 1) vs)) f

pub with_curves : (vs : List Value) (at place curves : ℕ) (b : Bool) → group_passes tuple_shape (drop at vs) ≡ true → place ≡ at + 4 →
    may_count (value_or_default vs place) ≡ true → curves ≡ count_at vs place
    → groups_pass curve_shape curves (drop (place + 1) vs) ≡ b → tuple_passes (drop at vs) ≡ b
with_curves vs at place curves b g e t h f = tuple_is vs at place curves g e h ∙ ap (λ x. x && groups_pass curve_shape curves (drop (place + 1) vs)) t ∙ f

pub ends : (vs : List Value) (at place curves end : ℕ) → place ≡ at + 4 → curves ≡ count_at vs place → drop end vs ≡ drop (place + (1 + curves * 2)) vs →
    place < 2 ^ 64
    → (0 < curves → place + (1 + curves * 2) < 2 ^ 64) → AreEnds at vs curves end
ends vs at place curves end e h d small many =
    let same : place + (1 + curves * 2) ≡ at + (5 + curves * 2) = omega (arith, e) in
    record {
      counted = h ∙ sym (ap count_of (count_place vs at place e));
      after = d ∙ ap (λ k. drop k vs) same ∙ sym (drop-drop (5 + curves * 2) at vs);
      small = subst (λ (n : ℕ). n < 2 ^ 64) e small;
      small_curves = λ some. subst (λ (n : ℕ). n < 2 ^ 64) same (many some);
    }

-- ---- one tuple and those after it

pub one_tuple : (vs : List Value) (left at end curves : ℕ) → 0 < left → tuple_passes (drop at vs) ≡ true → AreEnds at vs curves end →
    tuples_pass left (drop at vs) ≡ tuples_pass (left - 1) (drop end vs)
one_tuple vs zero at end curves some t a = absurd (omega (arith, some))
one_tuple vs (suc n) at end curves some t a =
    let less : n ≡ suc n - 1 = omega arith in
    ap (λ b. b && tuples_pass n (drop (5 + count_at (drop at vs) 4 * 2) (drop at vs))) t
    ∙ ap (λ k. tuples_pass n (drop (5 + k * 2) (drop at vs))) (sym a.counted) ∙ ap (tuples_pass n) (sym a.after) ∙ ap (λ k. tuples_pass k (drop end vs)) less

pub first_tuple : (vs : List Value) (left at end curves : ℕ) → 0 < left → AreEnds at vs curves end →
    tuples_read left (drop at vs) ≡ tuple_read (drop at vs) ∷ tuples_read (left - 1) (drop end vs)
first_tuple vs zero at end curves some a = absurd (omega (arith, some))
first_tuple vs (suc n) at end curves some a =
    let less : n ≡ suc n - 1 = omega arith in
    let turned : 2 * count_at (drop at vs) 4 ≡ count_at (drop at vs) 4 * 2 = omega arith in
    ap (λ k. tuple_read (drop at vs) ∷ tuples_read n (drop (5 + k) (drop at vs))) turned
    ∙ ap (λ k. tuple_read (drop at vs) ∷ tuples_read n (drop (5 + k * 2) (drop at vs))) (sym a.counted)
    ∙ ap (λ ws. tuple_read (drop at vs) ∷ tuples_read n ws) (sym a.after) ∙ ap (λ k. tuple_read (drop at vs) ∷ tuples_read k (drop end vs)) less

pub positive : (n : ℕ) → n ≢ 0 → 0 < n
positive zero h = absurd (h refl)
positive (suc n) h = omega arith

abbrev pub curve_of : Bool × ℤ → ℤ
curve_of c = c.1

pub curve_item : (vs : List Value) (at n i : ℕ) (z : ℤ) → i < n → z ≡ int_at vs (at + 5 + i * 2 + 1) →
    Some z ≡ option_map curve_of (slice_get (map curve_read (groups 2 n (drop 5 (drop at vs)))) i)
curve_item vs at n i z h e =
    let place : at + (5 + i * 2 + 1) ≡ at + 5 + i * 2 + 1 = omega arith in
    let there : value_or_default (take 2 (drop (5 + i * 2) (drop at vs))) 1 ≡ value_or_default vs (at + 5 + i * 2 + 1)
    = read_at 2 (5 + i * 2) 1 (drop at vs) (lit< tt) ∙ value_after at (5 + i * 2 + 1) vs ∙ ap (value_or_default vs) place in
    ap Some (e ∙ sym (ap int_of there)) ∙ sym (ap (λ (o : Option (Bool × ℤ)). option_map curve_of o) (item_at curve_read 2 n i 5 (drop at vs) h))

pub curve_past : (vs : List Value) (at n i : ℕ) → n ≤ i → None ≡ option_map curve_of (slice_get (map curve_read (groups 2 n (drop 5 (drop at vs)))) i)
curve_past vs at n i h = sym (ap (λ (o : Option (Bool × ℤ)). option_map curve_of o) (items_past curve_read 2 n i (drop 5 (drop at vs)) h))

pub int_in : (vs : List Value) (at k : ℕ) → int_at vs (at + k) ≡ int_at (drop at vs) k
int_in vs at k = sym (ap int_of (value_after at k vs))

pub flag_in : (vs : List Value) (at k : ℕ) → flag_at vs (at + k) ≡ flag_at (drop at vs) k
flag_in vs at k = sym (ap flag_of (value_after at k vs))

pub first_flag_in : (vs : List Value) (at : ℕ) → flag_at vs at ≡ flag_at (drop at vs) 0
first_flag_in vs at = let e : at ≡ at + 0 = omega arith in ap (flag_at vs) e ∙ flag_in vs at 0

-- ---- a tuple that was checked stands within the record

curves_fit : (n : ℕ) (vs : List Value) → groups_pass curve_shape n vs ≡ true → n * 2 ≤ length vs
curves_fit zero vs e = omega arith
curves_fit (suc n) [] e = absurd cc
curves_fit (suc n) (v ∷ []) e = let h = and_right (passes Flag v) false (and_left (passes Flag v && false) (groups_pass curve_shape n []) e) in absurd cc
curves_fit (suc n) (v ∷ w ∷ vs) e = omega (arith, curves_fit n vs (and_right (passes Flag v && (passes Whole w && true)) (groups_pass curve_shape n vs) e))

four_fit : (vs : List Value) (r : Bool) → (group_passes tuple_shape vs && r) ≡ true → 4 ≤ length vs
four_fit [] r e = absurd cc
four_fit (a ∷ []) r e = let h = and_right (passes Flag a) false (and_left _ r e) in absurd cc
four_fit (a ∷ b ∷ []) r e = let h = and_right (passes Whole b) false (and_right (passes Flag a) _ (and_left _ r e)) in absurd cc
four_fit (a ∷ b ∷ c ∷ []) r e = let h = and_right (passes Whole c) false
    (and_right (passes Whole b) _ (and_right (passes Flag a) _ (and_left _ r e))) in absurd cc
four_fit (a ∷ b ∷ c ∷ d ∷ vs) r e = omega arith

pub count_within : (vs : List Value) (at : ℕ) → tuple_passes (drop at vs) ≡ true → at + 4 ≤ length vs
count_within vs at e = omega (arith, four_fit (drop at vs) _ e, length-drop at vs)

pub curves_within : (vs : List Value) (at curves : ℕ) → tuple_passes (drop at vs) ≡ true →
    curves ≡ count_at vs (at + 4) → at + 4 < length vs → at + 5 + curves * 2 ≤ length vs
curves_within vs at curves e h within =
    let there : curves ≡ count_at (drop at vs) 4 = h ∙ sym (ap count_of (value_after at 4 vs)) in
    let pass : groups_pass curve_shape (count_at (drop at vs) 4) (drop 5 (drop at vs)) ≡ true
    = and_right (may_count (value_or_default (drop at vs) 4)) _ (and_right (group_passes tuple_shape (drop at vs)) _ e) in
    let room : curves * 2 ≤ length (drop 5 (drop at vs)) = curves_fit curves (drop 5 (drop at vs))
    (subst (λ n. groups_pass curve_shape n (drop 5 (drop at vs)) ≡ true) (sym there) pass) in
    omega (arith, room, length-drop 5 (drop at vs), length-drop at vs, within)

pub no_curves : (vs : List Value) (at : ℕ) → length vs ≤ at + 4 → at + 4 < 2 ^ 64 → AreEnds at vs 0 (at + 4)
no_curves vs at past small =
    let none : 0 ≡ count_at vs (at + 4) = sym (ap count_of (past_value vs (at + 4) past)) in
    let missing = no_count vs (at + 4) 0 past none in
    ends vs at (at + 4) 0 (at + 4) refl none missing.1 small missing.2

pub counted_ends : (vs : List Value) (at curves : ℕ) → curves ≡ count_at vs (at + 4) → at + 4 + 1 + curves * 2 < 2 ^ 64 →
    AreEnds at vs curves (at + 4 + 1 + curves * 2)
counted_ends vs at curves h small =
    let same : at + 4 + 1 + curves * 2 ≡ at + 4 + (1 + curves * 2) = omega arith in
    ends vs at (at + 4) curves (at + 4 + 1 + curves * 2) refl h (ap (λ k. drop k vs) same) (omega (arith, small)) (λ some. omega (arith, small))

pub passes_now : (vs : List Value) (left at : ℕ) → left ≢ 0 → tuples_pass left (drop at vs) ≡ true → tuple_passes (drop at vs) ≡ true
passes_now vs zero at some t = absurd (some refl)
passes_now vs (suc n) at some t = and_left _ _ t
