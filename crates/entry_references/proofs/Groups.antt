-- Groups of pointers by their places.
use Rattle.std.specs.Prelude.{◌≡◌, ℕ, zero, suc, ◌+◌, ◌-◌, ◌<◌, min, Bool, true, false, ◌&&◌, List, [], length, take, drop, Some, None, slice_get}
use Rattle.std.specs.Prelude.{slice_index_or, unwrap_or}
use Rattle.std.specs.List.{list_all}
use Rattle.std.proofs.Common.{refl, sym, ap, ◌∙◌, arith}
use Rattle.std.proofs.lemmas.Bool.{and_from, and_left, and_right}
use Rattle.std.proofs.lemmas.List.{drop-drop, drop_min, get_or-drop}
use Rattle.iges_fields.specs.declared.value.Value.{Value}
use Rattle.iges_fields.specs.declared.value.Value.TheVariants as value
use Rattle.brep_lists.proofs.Places.{open_at, none_at}
use Rattle.entry_references.specs.Layout.{Own, value_at, count_of, is_count, is_pointer}
use Rattle.entry_references.specs.Refs.{Group, group_at, first_group, second_group, is_group, is_left_out, are_groups}
use Rattle.entry_references.specs.GroupPlaces.{group_between}

-- ---- tests along a record

module _ (p : Value → Bool) (vs : List Value) where
  test_fails : (n i : ℕ) (v : Value) → 0 < n → Some v ≡ slice_get vs i → p v ≡ false → list_all p (take n (drop i vs)) ≡ false
  test_fails zero i v some e f = absurd (omega (arith, some))
  test_fails (suc n) i v some e f = ap (λ (xs : List Value). list_all p (take (suc n) xs)) (open_at vs i v (sym e))
      ∙ and_left (p v) (list_all p (take n (drop (i + 1) vs))) f

  test_passes : (n i : ℕ) (v : Value) → 0 < n → Some v ≡ slice_get vs i → p v ≡ true → list_all p (take (n - 1) (drop (i + 1) vs))
      ≡ list_all p (take n (drop i vs))
  test_passes zero i v some e f = absurd (omega (arith, some))
  test_passes (suc n) i v some e f =
      let less : suc n - 1 ≡ n = omega arith in
      ap (λ (m : ℕ). list_all p (take m (drop (i + 1) vs))) less
      ∙ sym (ap (λ (xs : List Value). list_all p (take (suc n) xs)) (open_at vs i v (sym e)) ∙ ap (λ (b : Bool). b && list_all p (take n (drop (i + 1) vs))) f)

  test_ends : (n i : ℕ) → None ≡ slice_get vs i → list_all p (take n (drop i vs)) ≡ true
  test_ends n i e = ap (λ (xs : List Value). list_all p (take n xs)) (none_at vs i (sym e)) ∙ of_none n
    where
      of_none : (m : ℕ) → list_all p (take m []) ≡ true
      of_none zero = refl
      of_none (suc m) = refl

  pub at_failed : (before count i : ℕ) (v : Value) (all : Bool) → i < count → Some v ≡ slice_get vs (before + i) → p v ≡ false
      → list_all p (take (count - i) (drop (before + i) vs)) ≡ all → false ≡ all
  at_failed before count i v all lt e f same = sym (test_fails (count - i) (before + i) v (omega (arith, lt)) e f) ∙ same

  pub at_passed : (before count i : ℕ) (v : Value) (all : Bool) → i < count → Some v ≡ slice_get vs (before + i) → p v ≡ true
      → list_all p (take (count - i) (drop (before + i) vs)) ≡ all
      → list_all p (take (count - (i + 1)) (drop (before + (i + 1)) vs)) ≡ all
  at_passed before count i v all lt e f same =
      let less : count - (i + 1) ≡ (count - i) - 1 = omega (arith, lt) in
      let on : before + (i + 1) ≡ (before + i) + 1 = omega arith in
      ap (λ (m : ℕ). list_all p (take m (drop (before + (i + 1)) vs))) less
      ∙ (ap (λ (m : ℕ). list_all p (take ((count - i) - 1) (drop m vs))) on ∙ (test_passes (count - i) (before + i) v (omega (arith, lt)) e f ∙ same))

  pub at_end : (before count i : ℕ) (all : Bool) → None ≡ slice_get vs (before + i) → list_all p (take (count - i) (drop (before + i) vs)) ≡ all → true ≡ all
  at_end before count i all e same = sym (test_ends (count - i) (before + i) e) ∙ same

  pub rest_failed : (i : ℕ) (v : Value) (all : Bool) → Some v ≡ slice_get vs i → p v ≡ false → list_all p (drop i vs) ≡ all → false ≡ all
  rest_failed i v all e f same = sym (ap (list_all p) (open_at vs i v (sym e)) ∙ and_left (p v) (list_all p (drop (i + 1) vs)) f) ∙ same

  pub rest_passed : (i : ℕ) (v : Value) (all : Bool) → Some v ≡ slice_get vs i → p v ≡ true → list_all p (drop i vs) ≡ all → list_all p (drop (i + 1) vs) ≡ all
  rest_passed i v all e f same = sym (ap (list_all p) (open_at vs i v (sym e)) ∙ ap (λ (b : Bool). b && list_all p (drop (i + 1) vs)) f) ∙ same

  pub rest_ended : (i : ℕ) (all : Bool) → None ≡ slice_get vs i → list_all p (drop i vs) ≡ all → true ≡ all
  rest_ended i all e same = sym (ap (list_all p) (none_at vs i (sym e))) ∙ same

-- ---- a group

first_value : (vs : List Value) (i : ℕ) → value_at (drop i vs) 1 ≡ value_at vs (i + 1)
first_value vs i =
    let here : i + 0 ≡ (i + 1) - 1 = omega arith in
    get_or-drop i vs 0 value.Default ∙ ap (λ (k : ℕ). slice_index_or vs k value.Default) here

same_group : (c d : Value) (n m : ℕ) (vs ws rest : List Value) → c ≡ d → vs ≡ ws → n ≡ m → drop n vs ≡ rest
    → (let g : Group = record { count = c; pointers = take n vs; rest = drop n vs } in g) ≡ record { count = d; pointers = take m ws; rest = rest }
same_group c d n m vs ws rest ec ev en er =
    ap (λ (x : Value). let g : Group = record { count = x; pointers = take n vs; rest = drop n vs } in g) ec
    ∙ (ap (λ (xs : List Value). let g : Group = record { count = d; pointers = xs; rest = drop n vs } in g) (ap (λ (k : ℕ). take k vs) en ∙ ap (take m) ev)
    ∙ ap (λ (xs : List Value). let g : Group = record { count = d; pointers = take m ws; rest = xs } in g) er)

pub group_is : (vs : List Value) (i place n : ℕ) → place ≡ i + 1 → n ≡ unwrap_or (count_of (value_at vs place)) 0
    → group_at (drop i vs) ≡ group_between vs place n
group_is vs i place n ep en =
    let count : value_at (drop i vs) 1 ≡ value_at vs place = first_value vs i ∙ ap (value_at vs) (sym ep) in
    let m : unwrap_or (count_of (value_at (drop i vs) 1)) 0 ≡ n = ap (λ (v : Value). unwrap_or (count_of v) 0) count ∙ sym en in
    let k : i + 1 ≡ place = sym ep in
    let opened : drop 1 (drop i vs) ≡ drop place vs = drop-drop 1 i vs ∙ ap (λ (j : ℕ). drop j vs) k in
    let rest : drop (unwrap_or (count_of (value_at (drop i vs) 1)) 0) (drop 1 (drop i vs)) ≡ drop (place + n) vs =
    ap (λ (j : ℕ). drop j (drop 1 (drop i vs))) m ∙ (ap (drop n) opened ∙ drop-drop n place vs) in
    same_group (value_at (drop i vs) 1) (value_at vs place) (unwrap_or (count_of (value_at (drop i vs) 1)) 0) n (drop 1 (drop i vs)) (drop place vs)
    (drop (place + n) vs) count opened m rest

pub group_stands : (vs : List Value) (i place n : ℕ) → place ≡ i + 1 → is_count vs (value_at vs place) ≡ true → n ≡ unwrap_or (count_of (value_at vs place)) 0
    → list_all is_pointer (take n (drop place vs)) ≡ true
    → is_group vs (group_at (drop i vs)) ≡ true
group_stands vs i place n ep ec en ea =
    ap (is_group vs) (group_is vs i place n ep en) ∙ and_from (is_count vs (value_at vs place)) (list_all is_pointer (take n (drop place vs))) ec ea

pub bad_pointers : (vs : List Value) (i place n : ℕ) → place ≡ i + 1 → n ≡ unwrap_or (count_of (value_at vs place)) 0
    → list_all is_pointer (take n (drop place vs)) ≡ false → is_group vs (group_at (drop i vs)) ≡ false
bad_pointers vs i place n ep en ea =
    ap (is_group vs) (group_is vs i place n ep en) ∙ and_right (is_count vs (value_at vs place)) (list_all is_pointer (take n (drop place vs))) ea

pub bad_count : (vs : List Value) (i place : ℕ) → place ≡ i + 1 → is_count vs (value_at vs place) ≡ false → is_group vs (group_at (drop i vs)) ≡ false
bad_count vs i place ep ec =
    ap (is_group vs) (group_is vs i place (unwrap_or (count_of (value_at vs place)) 0) ep refl)
    ∙ and_left (is_count vs (value_at vs place)) (list_all is_pointer (take (unwrap_or (count_of (value_at vs place)) 0) (drop place vs))) ec

-- ---- both groups

pub first_at : (own : Own) (vs : List Value) (i : ℕ) → i ≡ min own.count (length vs) → group_at (drop i vs) ≡ first_group own vs
first_at own vs i e = ap group_at (ap (λ (k : ℕ). drop k vs) e ∙ drop_min own.count vs)

pub second_at : (own : Own) (vs : List Value) (i before count j : ℕ) → i ≡ min own.count (length vs) → group_at (drop i vs) ≡ group_between vs before count
    → j ≡ before + count → group_at (drop j vs) ≡ second_group own vs
second_at own vs i before count j ei eg ej =
    ap (λ (k : ℕ). group_at (drop k vs)) ej
    ∙ ap (λ (g : Group). group_at g.rest) (sym eg ∙ first_at own vs i ei)

module _ (own : Own) (vs : List Value) (i : ℕ) (ei : i ≡ min own.count (length vs)) where
  pub no_first : is_group vs (group_at (drop i vs)) ≡ false → are_groups own vs ≡ false
  no_first f =
      let bad : is_group vs (first_group own vs) ≡ false = ap (is_group vs) (sym (first_at own vs i ei)) ∙ f in
      and_left (is_group vs (first_group own vs) && is_group vs (second_group own vs)) (list_all is_left_out (second_group own vs).rest)
      (and_left (is_group vs (first_group own vs)) (is_group vs (second_group own vs)) bad)

  module _ (before count j : ℕ) (eg : group_at (drop i vs) ≡ group_between vs before count) (ej : j ≡ before + count) where
    pub no_second : is_group vs (group_at (drop j vs)) ≡ false → are_groups own vs ≡ false
    no_second f =
        let bad : is_group vs (second_group own vs) ≡ false = ap (is_group vs) (sym (second_at own vs i before count j ei eg ej)) ∙ f in
        and_left (is_group vs (first_group own vs) && is_group vs (second_group own vs)) (list_all is_left_out (second_group own vs).rest)
        (and_right (is_group vs (first_group own vs)) (is_group vs (second_group own vs)) bad)

    module _ (place n k : ℕ) (es : group_at (drop j vs) ≡ group_between vs place n) (ek : k ≡ place + n) where
      pub second_is : second_group own vs ≡ group_between vs place n
      second_is = sym (second_at own vs i before count j ei eg ej) ∙ es

      rest_is : list_all is_left_out (second_group own vs).rest ≡ list_all is_left_out (drop k vs)
      rest_is = ap (λ (g : Group). list_all is_left_out g.rest) second_is ∙ ap (λ (m : ℕ). list_all is_left_out (drop m vs)) (sym ek)

      pub no_end : list_all is_left_out (drop k vs) ≡ false → are_groups own vs ≡ false
      no_end f =
          and_right (is_group vs (first_group own vs) && is_group vs (second_group own vs)) (list_all is_left_out (second_group own vs).rest) (rest_is ∙ f)

      pub both_groups : is_group vs (group_at (drop i vs)) ≡ true → is_group vs (group_at (drop j vs)) ≡ true → list_all is_left_out (drop k vs) ≡ true
          → are_groups own vs ≡ true
      both_groups f s r =
          and_from (is_group vs (first_group own vs) && is_group vs (second_group own vs)) (list_all is_left_out (second_group own vs).rest)
          (and_from (is_group vs (first_group own vs)) (is_group vs (second_group own vs)) (ap (is_group vs) (sym (first_at own vs i ei)) ∙ f)
          (ap (is_group vs) (sym (second_at own vs i before count j ei eg ej)) ∙ s))
          (rest_is ∙ r)
