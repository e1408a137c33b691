-- The values of an extracted record stay when it is extracted again.
use Rattle.std.specs.Prelude.{◌≡◌, ◌⊎◌, ℕ, zero, suc, ◌+◌, ◌-◌, ◌<◌, ◌≤◌, ◌==◌, Bool, true, false, ◌&&◌, nat_le, ℤ, pos, List, [], ◌∷◌, ◌++◌, length, map, take}
use Rattle.std.specs.Prelude.{drop, Some, None, if◌then◌else◌, option_map, slice_index_or}
use Rattle.std.specs.List.{enumerate_from, list_all}
use Rattle.std.specs.Ordering.{int_eq}
use Rattle.std.proofs.Common.{refl, sym, ap, ◌∙◌, arith, inl, inr}
use Rattle.std.proofs.lemmas.Bool.{and_from, cond-false, le-leb, ne_eqb}
use Rattle.iges_fields.specs.declared.value.Value.{Value}
use Rattle.iges_fields.specs.declared.value.Value.TheVariants as value
use Rattle.entry_references.specs.EntrySets.{is_among}
use Rattle.entry_references.specs.Layout.{Own, value_at, is_pointer}
use Rattle.entry_references.specs.Refs.{group_at, is_group, is_left_out, second_group, are_groups, number_of}
use Rattle.solid_extract.specs.Extracted.{new_value, renamed}
use Rattle.solid_extract.specs.NewValues.{names_behind}
use Rattle.solid_extract.proofs.AgainPlaces.{odds_from, renamed_zero, renamed_again}

module _ (kept : List ℕ) (own : Own) where
  abbrev pub olds : ℕ → List Value → List Value
  olds k vs = map (λ (v : ℕ × Value). new_value kept own v.0 v.1) (enumerate_from k vs)

  -- the i-th own value, from 0, where what stands behind them begins at its place
  own_at : (vs tail : List Value) (k c i : ℕ) → i < c → (c ≤ length vs) ⊎ (tail ≡ []) → slice_index_or (olds k (take c vs) ++ tail) i value.Default
      ≡ new_value kept own (k + i) (slice_index_or vs i value.Default)
  own_at vs tail k zero i lt full = absurd (omega (arith, lt))
  own_at [] tail k (suc c) i lt (inl full) = absurd (omega (arith, full))
  own_at [] tail k (suc c) i lt (inr none) = ap (λ (xs : List Value). slice_index_or xs i value.Default) none
  own_at (v ∷ vs) tail k (suc c) zero lt full = let e : k ≡ k + 0 = omega arith in ap (λ (j : ℕ). new_value kept own j v) e
  own_at (v ∷ vs) tail k (suc c) (suc i) lt full =
      let e : k + 1 + i ≡ k + suc i = omega arith in
      own_at vs tail (k + 1) c i (omega (arith, lt)) (shorter full) ∙ ap (λ (j : ℕ). new_value kept own j (slice_index_or vs i value.Default)) e
    where
      shorter : (suc c ≤ length (v ∷ vs)) ⊎ (tail ≡ []) → (c ≤ length vs) ⊎ (tail ≡ [])
      shorter (inl most) = inl (omega (arith, most))
      shorter (inr none) = inr none

  pub value_again : (vs tail : List Value) (c k : ℕ) → 1 ≤ k → k ≤ c → (c ≤ length vs) ⊎ (tail ≡ []) → value_at (olds 1 (take c vs) ++ tail) k
      ≡ new_value kept own k (value_at vs k)
  value_again vs tail c k low high full =
      let e : 1 + (k - 1) ≡ k = omega (arith, low) in
      own_at vs tail 1 c (k - 1) (omega (arith, low, high)) full ∙ ap (λ (j : ℕ). new_value kept own j (value_at vs k)) e

  -- a value that is no pointer stays
  pub value_kept : (k : ℕ) (v : Value) → is_among own.pointers k ≡ false → is_among own.cut k ≡ false → new_value kept own k v ≡ v
  value_kept k value.Default p c = refl
  value_kept k (value.Int z) p c =
      ap (λ (b : Bool). value.Int (if b then renamed kept z else (if is_among own.cut k then pos 0 else z))) p
      ∙ ap (λ (b : Bool). value.Int (if b then pos 0 else z)) c
  value_kept k (value.Real w) p c = refl
  value_kept k (value.Text t) p c = refl

  pub pointer_kept : (k : ℕ) (v : Value) → is_pointer v ≡ true → is_pointer (new_value kept own k v) ≡ true
  pointer_kept k value.Default h = refl
  pointer_kept k (value.Int z) h = refl
  pointer_kept k (value.Real w) h = h
  pointer_kept k (value.Text t) h = h

  -- a pointer other than 0 becomes one
  pub number_renamed : (k : ℕ) (v : Value) → is_among own.pointers k ≡ true → number_of (new_value kept own k v) ≡ option_map (renamed kept) (number_of v)
  number_renamed k value.Default p = refl
  number_renamed k (value.Real w) p = refl
  number_renamed k (value.Text t) p = refl
  number_renamed k (value.Int z) p =
      ap (λ (b : Bool). number_of (value.Int (if b then renamed kept z else (if is_among own.cut k then pos 0 else z)))) p
      ∙ ap (λ (b : Bool). if b then None else Some (renamed kept z)) (renamed_zero kept z) ∙ by_test (int_eq z (pos 0))
    where
      by_test : (b : Bool) → (if b then None else Some (renamed kept z)) ≡ option_map (renamed kept) (if b then None else Some z)
      by_test true = refl
      by_test false = refl

  -- extracted again, a value stays
  twice : (k : ℕ) (v : Value) → new_value (odds_from 0 (length kept)) own k (new_value kept own k v) ≡ new_value kept own k v
  twice k value.Default = refl
  twice k (value.Real w) = refl
  twice k (value.Text t) = refl
  twice k (value.Int z) = by_test (is_among own.pointers k) (is_among own.cut k)
    where
      by_test : (p c : Bool) →
          (let w : ℤ = if p then renamed kept z else (if c then pos 0 else z) in value.Int
          (if p then renamed (odds_from 0 (length kept)) w else (if c then pos 0 else w)) ≡ value.Int w)
      by_test true c = ap (λ (w : ℤ). value.Int w) (renamed_again kept z)
      by_test false true = refl
      by_test false false = refl

  pub olds_again : (k : ℕ) (vs : List Value) → map (λ (v : ℕ × Value). new_value (odds_from 0 (length kept)) own v.0 v.1) (enumerate_from k (olds k vs))
      ≡ olds k vs
  olds_again k [] = refl
  olds_again k (v ∷ vs) =
      ap (λ (w : Value). w ∷ map (λ (x : ℕ × Value). new_value (odds_from 0 (length kept)) own x.0 x.1) (enumerate_from (k + 1) (olds (k + 1) vs))) (twice k v)
      ∙ ap (λ (ws : List Value). new_value kept own k v ∷ ws) (olds_again (k + 1) vs)

  -- ---- where the own values end

  pub olds_cut : (k c : ℕ) (vs tail : List Value) → (c ≤ length vs) ⊎ (tail ≡ []) → (take c (olds k (take c vs) ++ tail) ≡ olds k (take c vs))
      × (drop c (olds k (take c vs) ++ tail) ≡ tail)
  olds_cut k zero vs tail full = (refl, refl)
  olds_cut k (suc c) [] tail (inl full) = absurd (omega (arith, full))
  olds_cut k (suc c) [] tail (inr none) = (ap (take (suc c)) none, ap (drop (suc c)) none ∙ sym none)
  olds_cut k (suc c) (v ∷ vs) tail full =
      let on = olds_cut (k + 1) c vs tail (shorter full) in
      (ap (λ (ws : List Value). new_value kept own k v ∷ ws) on.0, on.1)
    where
      shorter : (suc c ≤ length (v ∷ vs)) ⊎ (tail ≡ []) → (c ≤ length vs) ⊎ (tail ≡ [])
      shorter (inl most) = inl (omega (arith, most))
      shorter (inr none) = inr none

-- ---- the groups

abbrev groups_stand : List Value → List Value → Bool
groups_stand vs behind = is_group vs (group_at behind) && is_group vs (group_at (group_at behind).rest)
    && list_all is_left_out (group_at (group_at behind).rest).rest

take_whole : (vs : List Value) → (take (length vs) vs ≡ vs) × (drop (length vs) vs ≡ [])
take_whole [] = (refl, refl)
take_whole (v ∷ vs) = let on = take_whole vs in (ap (λ (ws : List Value). v ∷ ws) on.0, on.1)

names_group : (vs names : List Value) → length names ≤ length vs → list_all is_pointer names ≡ true → (groups_stand vs (names_behind names) ≡ true)
    × ((group_at (group_at (names_behind names)).rest).pointers ≡ names)
names_group vs [] few all = (
  and_from (is_group vs (group_at []) && is_group vs (group_at [])) true (and_from (is_group vs (group_at [])) (is_group vs (group_at [])) none none) refl,
  refl,
)
  where
    none : is_group vs (group_at []) ≡ true
    none = and_from (nat_le 0 (length vs)) true (le-leb 0 (length vs) (omega arith)) refl
names_group vs (v ∷ names) few all = (
  ap (groups_stand vs) is ∙ stand,
  ap (λ (behind : List Value). (group_at (group_at behind).rest).pointers) is ∙ (take_whole (v ∷ names)).0,
)
  where
    is : names_behind (v ∷ names) ≡ value.Int (pos 0) ∷ value.Int (pos (length (v ∷ names))) ∷ v ∷ names
    is = cond-false (length (v ∷ names) == 0) [] (value.Int (pos 0) ∷ value.Int (pos (length (v ∷ names))) ∷ v ∷ names)
        (ne_eqb (suc (length names)) 0 (λ e. omega (arith, e)))

    stand : groups_stand vs (value.Int (pos 0) ∷ value.Int (pos (length (v ∷ names))) ∷ v ∷ names) ≡ true
    stand =
        and_from _ _
        (and_from _ _ (and_from (nat_le 0 (length vs)) true (le-leb 0 (length vs) (omega arith)) refl)
        (and_from (nat_le (length (v ∷ names)) (length vs)) (list_all is_pointer (take (length (v ∷ names)) (v ∷ names)))
        (le-leb (length (v ∷ names)) (length vs) few)
        (ap (list_all is_pointer) (take_whole (v ∷ names)).0 ∙ all)))
        (ap (list_all is_left_out) (take_whole (v ∷ names)).1)

pub groups_again : (own : Own) (vs names : List Value) → drop own.count vs ≡ names_behind names → length names ≤ length vs → list_all is_pointer names ≡ true
    → (are_groups own vs ≡ true) × ((second_group own vs).pointers ≡ names)
groups_again own vs names e few all =
    let g = names_group vs names few all in
    (ap (groups_stand vs) e ∙ g.0, ap (λ (behind : List Value). (group_at (group_at behind).rest).pointers) e ∙ g.1)
