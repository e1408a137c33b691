-- The values of a shell that is extracted, with other flags.
use Rattle.std.specs.Prelude.{◌≡◌, ℕ, zero, suc, ◌+◌, ◌-◌, ◌*◌, ◌≤◌, Bool, true, false, ℤ, List, [], ◌∷◌, ◌++◌, length, flat_map, filter_map, take}
use Rattle.std.specs.Prelude.{drop, Option, Some, None, slice_index_or}
use Rattle.std.specs.List.{enumerate_from, cons_option}
use Rattle.std.proofs.Common.{refl, sym, ◌∙◌, ap, subst, arith, inl, inr}
use Rattle.std.proofs.lemmas.Bool.{cond-true}
use Rattle.iges_fields.specs.declared.value.Value.{Value}
use Rattle.iges_fields.specs.declared.value.Value.TheVariants as value
use Rattle.brep_lists.specs.DueValues.{MeetsAll}
use Rattle.brep_lists.specs.OwnValues.{own_count, if_pointer, pointer_places, is_record_of}
use Rattle.brep_lists.specs.Record.{pair_due, due, items_of, IsRecordOf}
use Rattle.brep_lists.specs.declared.entity_kind.EntityKind.TheVariants.{Shell as shell}
use Rattle.brep_lists.proofs.Decided.{decided}
use Rattle.entry_references.specs.EntrySets.{is_among}
use Rattle.entry_references.specs.Layout.{Own, value_at}
use Rattle.entry_references.specs.Refs.{own_of_kind, number_of}
use Rattle.entry_references.proofs.RisingLists.{In, among_in}
use Rattle.solid_extract.specs.Extracted.{new_value}
use Rattle.solid_extract.proofs.AgainValues.{olds, value_kept}
use Rattle.solid_reorient.specs.Reflagged.{flag_value, pairs_with, values_with}
use Rattle.solid_reorient.proofs.ShellValues.{faces_flagged, length-flagged, items_flagged, still_record}

-- ---- the first values and the rest

pairs_take : (bs : List Bool) (c : ℕ) (ws : List Value) → pairs_with bs (take c ws) ≡ take c (pairs_with bs ws)
pairs_take [] c ws = refl
pairs_take (b ∷ bs) zero [] = refl
pairs_take (b ∷ bs) zero (p ∷ []) = refl
pairs_take (b ∷ bs) zero (p ∷ v ∷ ws) = refl
pairs_take (b ∷ bs) (suc zero) [] = refl
pairs_take (b ∷ bs) (suc zero) (p ∷ []) = refl
pairs_take (b ∷ bs) (suc zero) (p ∷ v ∷ ws) = refl
pairs_take (b ∷ bs) (suc (suc c)) [] = refl
pairs_take (b ∷ bs) (suc (suc c)) (p ∷ []) = refl
pairs_take (b ∷ bs) (suc (suc c)) (p ∷ v ∷ ws) = ap (λ (xs : List Value). p ∷ flag_value b ∷ xs) (pairs_take bs c ws)

pub values_take : (bs : List Bool) (c : ℕ) (vs : List Value) → values_with bs (take c vs) ≡ take c (values_with bs vs)
values_take bs zero [] = refl
values_take bs zero (n ∷ vs) = refl
values_take bs (suc c) [] = refl
values_take bs (suc c) (n ∷ vs) = ap (λ (xs : List Value). n ∷ xs) (pairs_take bs c vs)

pairs_drop : (bs : List Bool) (c : ℕ) (ws : List Value) → 2 * length bs ≤ c → drop c (pairs_with bs ws) ≡ drop c ws
pairs_drop [] c ws le = refl
pairs_drop (b ∷ bs) c [] le = refl
pairs_drop (b ∷ bs) c (p ∷ []) le = refl
pairs_drop (b ∷ bs) zero (p ∷ v ∷ ws) le = absurd (omega (arith, le))
pairs_drop (b ∷ bs) (suc zero) (p ∷ v ∷ ws) le = absurd (omega (arith, le))
pairs_drop (b ∷ bs) (suc (suc c)) (p ∷ v ∷ ws) le = pairs_drop bs c ws (omega (arith, le))

pub values_drop : (bs : List Bool) (c : ℕ) (vs : List Value) → 1 + 2 * length bs ≤ c → drop c (values_with bs vs) ≡ drop c vs
values_drop bs c [] le = refl
values_drop bs zero (n ∷ vs) le = absurd (omega (arith, le))
values_drop bs (suc c) (n ∷ vs) le = pairs_drop bs c vs (omega (arith, le))

-- ---- renamed values

module _ (kept : List ℕ) (own : Own) where
  -- the flags' places, from this one on, aren't those of pointers
  abbrev pub IsFree : ℕ → Type 0
  IsFree k = (j : ℕ) → (is_among own.pointers (k + 1 + 2 * j) ≡ false) × (is_among own.cut (k + 1 + 2 * j) ≡ false)

  pairs_renamed : (k : ℕ) (bs : List Bool) (ws : List Value) → IsFree k → olds kept own k (pairs_with bs ws) ≡ pairs_with bs (olds kept own k ws)
  pairs_renamed k [] ws free = refl
  pairs_renamed k (b ∷ bs) [] free = refl
  pairs_renamed k (b ∷ bs) (p ∷ []) free = refl
  pairs_renamed k (b ∷ bs) (p ∷ v ∷ ws) free =
      let here : k + 1 + 2 * 0 ≡ k + 1 = omega arith in
      let stays : new_value kept own (k + 1) (flag_value b) ≡ flag_value b =
      value_kept kept own (k + 1) (flag_value b) (subst (λ j. is_among own.pointers j ≡ false) here (free 0).0)
      (subst (λ j. is_among own.cut j ≡ false) here (free 0).1) in
      let next : IsFree (k + 1 + 1) = λ j. let on : k + 1 + 2 * suc j ≡ k + 1 + 1 + 1 + 2 * j = omega arith in
      (subst (λ i. is_among own.pointers i ≡ false) on (free (suc j)).0, subst (λ i. is_among own.cut i ≡ false) on (free (suc j)).1) in
      ap (λ (x : Value). new_value kept own k p ∷ x ∷ olds kept own (k + 1 + 1) (pairs_with bs ws)) stays
      ∙ ap (λ (xs : List Value). new_value kept own k p ∷ flag_value b ∷ xs) (pairs_renamed (k + 1 + 1) bs ws next)

  pub values_renamed : (bs : List Bool) (vs : List Value) → IsFree 2 → olds kept own 1 (values_with bs vs) ≡ values_with bs (olds kept own 1 vs)
  values_renamed bs [] free = refl
  values_renamed bs (n ∷ vs) free = ap (λ (xs : List Value). new_value kept own 1 n ∷ xs) (pairs_renamed 2 bs vs free)

-- ---- the places of the pointers

abbrev pair_places : ℕ → List (ℤ × Bool) → List ℕ
pair_places k items = filter_map if_pointer (enumerate_from k (flat_map pair_due items))

places_even : (k : ℕ) (items : List (ℤ × Bool)) (q : ℕ) → In (pair_places k items) q → (i : ℕ) × (q ≡ k + 2 * i)
places_even k [] q h = absurd h
places_even k (x ∷ items) q (inl e) = (0, omega (arith, e))
places_even k (x ∷ items) q (inr h) = let r = places_even (k + 1 + 1) items q h in (suc r.0, omega (arith, r.1))

not_among : (ns : List ℕ) (k : ℕ) → ¬ In ns k → is_among ns k ≡ false
not_among ns k h = by_test (is_among ns k) refl
  where
    by_test : (b : Bool) → is_among ns k ≡ b → b ≡ false
    by_test true e = absurd (h (among_in ns k e))
    by_test false e = refl

places_flagged : (k : ℕ) (bs : List Bool) (items : List (ℤ × Bool)) → pair_places k (faces_flagged bs items) ≡ pair_places k items
places_flagged k [] items = refl
places_flagged k (b ∷ bs) [] = refl
places_flagged k (b ∷ bs) (i ∷ items) = ap (λ (ks : List ℕ). k ∷ ks) (places_flagged (k + 1 + 1) bs items)

length-due : (items : List (ℤ × Bool)) → length (flat_map pair_due items) ≡ 2 * length items
length-due [] = refl
length-due (i ∷ items) = omega (arith, length-due items)

module _ (vs : List Value) (is : IsRecordOf shell vs) where
  abbrev items : List (ℤ × Bool)
  items = items_of shell vs

  abbrev pub shell_own : Own
  shell_own = record { count = own_count shell vs; pointers = pointer_places shell vs; cut = [] }

  pub own_is : own_of_kind shell vs ≡ Some shell_own
  own_is = cond-true (is_record_of shell vs) (Some shell_own) None ((decided shell vs).1 is)

  pub counted : own_count shell vs ≡ 1 + 2 * length (items_of shell vs)
  counted = omega (arith, length-due (items_of shell vs))

  pub flags_free : (kept : List ℕ) → IsFree kept shell_own 2
  flags_free kept j = (not_among (pointer_places shell vs) (2 + 1 + 2 * j) odd, refl)
    where
      odd : In (pointer_places shell vs) (2 + 1 + 2 * j) → ⊥
      odd h = let r = places_even 2 (items_of shell vs) (2 + 1 + 2 * j) h in omega (arith, r.1)

  -- with other flags the layout is the same
  pub own_flagged : (bs : List Bool) → own_of_kind shell (values_with bs vs) ≡ Some shell_own
  own_flagged bs =
      let same : items_of shell (values_with bs vs) ≡ faces_flagged bs (items_of shell vs) = items_flagged bs vs is in
      let count_same : own_count shell (values_with bs vs) ≡ own_count shell vs =
      ap (λ (is : List (ℤ × Bool)). length (due shell is)) same
      ∙ (let e : length (due shell (faces_flagged bs (items_of shell vs))) ≡ length (due shell (items_of shell vs)) = omega
      (arith, length-due (faces_flagged bs (items_of shell vs)), length-due (items_of shell vs), length-flagged bs (items_of shell vs)) in e) in
      let places_same : pointer_places shell (values_with bs vs) ≡ pointer_places shell vs =
      ap (λ (is : List (ℤ × Bool)). filter_map if_pointer (enumerate_from 1 (due shell is))) same ∙ places_flagged 2 bs (items_of shell vs) in
      cond-true (is_record_of shell (values_with bs vs))
      (Some (record { count = own_count shell (values_with bs vs); pointers = pointer_places shell (values_with bs vs); cut = [] })) None
      ((decided shell (values_with bs vs)).1 (still_record bs vs is))
      ∙ (ap (λ (n : ℕ). let own : Own = record { count = n; pointers = pointer_places shell (values_with bs vs); cut = [] } in Some own) count_same
      ∙ ap (λ (ks : List ℕ). let own : Own = record { count = own_count shell vs; pointers = ks; cut = [] } in Some own) places_same)

  -- ---- the pointers

  pairs_at : (bs : List Bool) (ws : List Value) (i : ℕ) → slice_index_or (pairs_with bs ws) (2 * i) value.Default ≡ slice_index_or ws (2 * i) value.Default
  pairs_at [] ws i = refl
  pairs_at (b ∷ bs) [] i = refl
  pairs_at (b ∷ bs) (p ∷ []) i = refl
  pairs_at (b ∷ bs) (p ∷ v ∷ ws) zero = refl
  pairs_at (b ∷ bs) (p ∷ v ∷ ws) (suc i) =
      let on : 2 * suc i ≡ suc (suc (2 * i)) = omega arith in
      ap (λ k. slice_index_or (p ∷ flag_value b ∷ pairs_with bs ws) k value.Default) on
      ∙ (pairs_at bs ws i ∙ sym (ap (λ k. slice_index_or (p ∷ v ∷ ws) k value.Default) on))

  value_same : (bs : List Bool) (us : List Value) (i : ℕ) → value_at (values_with bs us) (2 + 2 * i) ≡ value_at us (2 + 2 * i)
  value_same bs [] i = refl
  value_same bs (n ∷ us) i =
      let at : 2 + 2 * i - 1 ≡ suc (2 * i) = omega arith in
      ap (λ k. slice_index_or (n ∷ pairs_with bs us) k value.Default) at
      ∙ (pairs_at bs us i ∙ sym (ap (λ k. slice_index_or (n ∷ us) k value.Default) at))

  numbers_same : (F G : ℕ → Option ℤ) (ks : List ℕ) → ((k : ℕ) → In ks k → F k ≡ G k) → filter_map F ks ≡ filter_map G ks
  numbers_same F G [] each = refl
  numbers_same F G (k ∷ ks) each = ap (λ (o : Option ℤ). cons_option o (filter_map F ks)) (each k (inl refl))
      ∙ ap (λ (zs : List ℤ). cons_option (G k) zs) (numbers_same F G ks (λ j h. each j (inr h)))

  pub pointers_same : (bs : List Bool) → filter_map (λ k. number_of (value_at (values_with bs vs) k)) (pointer_places shell vs) ≡ filter_map
      (λ k. number_of (value_at vs k)) (pointer_places shell vs)
  pointers_same bs = numbers_same (λ k. number_of (value_at (values_with bs vs) k)) (λ k. number_of (value_at vs k)) (pointer_places shell vs) one
    where
      one : (k : ℕ) → In (pointer_places shell vs) k → number_of (value_at (values_with bs vs) k) ≡ number_of (value_at vs k)
      one k h =
          let r = places_even 2 (items_of shell vs) k h in
          ap (λ j. number_of (value_at (values_with bs vs) j)) r.1 ∙ (ap number_of (value_same bs vs r.0) ∙ sym (ap (λ j. number_of (value_at vs j)) r.1))

-- ---- values behind the own ones

pairs_append : (bs : List Bool) (ws t : List Value) → 2 * length bs ≤ length ws → pairs_with bs (ws ++ t) ≡ pairs_with bs ws ++ t
pairs_append [] ws t le = refl
pairs_append (b ∷ bs) [] t le = absurd (omega (arith, le))
pairs_append (b ∷ bs) (p ∷ []) t le = absurd (omega (arith, le))
pairs_append (b ∷ bs) (p ∷ v ∷ ws) t le = ap (λ (xs : List Value). p ∷ flag_value b ∷ xs) (pairs_append bs ws t (omega (arith, le)))

pub values_append : (bs : List Bool) (vs t : List Value) → 1 + 2 * length bs ≤ length vs → values_with bs (vs ++ t) ≡ values_with bs vs ++ t
values_append bs [] t le = absurd (omega (arith, le))
values_append bs (n ∷ vs) t le = ap (λ (xs : List Value). n ∷ xs) (pairs_append bs vs t (omega (arith, le)))

pairs_enough : (items : List (ℤ × Bool)) (ws : List Value) → MeetsAll (flat_map pair_due items) ws → 2 * length items ≤ length ws
pairs_enough [] ws h = omega arith
pairs_enough (i ∷ items) [] h = absurd h
pairs_enough (i ∷ items) (p ∷ []) h = absurd h.1
pairs_enough (i ∷ items) (p ∷ v ∷ ws) h = omega (arith, pairs_enough items ws h.1.1)

-- a record has its own values
pub enough : (vs : List Value) → IsRecordOf shell vs → own_count shell vs ≤ length vs
enough [] is = absurd is
enough (n ∷ vs) is = omega (arith, counted (n ∷ vs) is, pairs_enough (items_of shell (n ∷ vs)) vs is.1)
