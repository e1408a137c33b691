-- The table of layouts: counts, choices and pointers stand among the own values, and counts and choices are no pointers.
use Rattle.std.specs.Prelude.{◌≡◌, ◌⊎◌, ℕ, zero, suc, ◌+◌, ◌*◌, ◌<◌, ◌≤◌, ◌&&◌, ◌||◌, ◌==◌, nat_le, Bool, true, false, ℤ, pos, List, [], ◌∷◌, ◌++◌, Some, None}
use Rattle.std.specs.Prelude.{if◌then◌else◌, find, option_map}
use Rattle.std.specs.List.{AllByRecursion, list_all, range_with_len}
use Rattle.std.specs.Option.{unwrap_or}
use Rattle.std.specs.Ordering.{int_eq}
use Rattle.std.proofs.Common.{refl, ◌∙◌, ap, subst, arith, inl, inr}
use Rattle.std.proofs.lemmas.Bool.{and_parts, leb-true, ne_eqb}
use Rattle.std.proofs.lemmas.Option.{same_Some}
use Rattle.iges_fields.specs.declared.value.Value.{Value}
use Rattle.iges_directory.specs.declared.entry.Entry.{Entry}
use Rattle.solid_data.proofs.Members.{Has, has_append}
use Rattle.entry_references.specs.EntrySets.{is_among}
use Rattle.entry_references.specs.Layout.{Layout, fixed, counted, by_form, nth, listed, is_other_property, layout_of, value_at, count_of, counts_at}

abbrev pub count_in : List Value → ℕ → ℕ
count_in vs k = unwrap_or (count_of (value_at vs k)) 0

pub record IsSteady (l : Layout) : Type 0 where
  pub counts : (ns : List ℕ) (k : ℕ) → Has (l.counts ++ l.choices) k → (1 ≤ k) × (k ≤ l.own ns) × (is_among (l.pointers ns) k ≡ false)
      × (is_among l.cut k ≡ false)
  pub pointers : (ns : List ℕ) (k : ℕ) → Has (l.pointers ns ++ l.cut) k → (1 ≤ k) × (k ≤ l.own ns)
  pub few : (vs : List Value) (k : ℕ) → Has l.counts k → count_in vs k ≤ l.own (counts_at vs (l.counts ++ l.choices))

-- places from 1 to n
abbrev are_within : ℕ → List ℕ → Bool
are_within n ks = list_all (λ k. nat_le 1 k && nat_le k n) ks

within_all : (n : ℕ) (ks : List ℕ) → are_within n ks ≡ true → (k : ℕ) → Has ks k → (1 ≤ k) × (k ≤ n)
within_all n [] t k h = absurd h
within_all n (x ∷ ks) t k (inl e) =
    let parts = and_parts (nat_le 1 x && nat_le x n) (are_within n ks) t in
    let both = and_parts (nat_le 1 x) (nat_le x n) parts.0 in
    (omega (arith, leb-true 1 x both.0, e), omega (arith, leb-true x n both.1, e))
within_all n (x ∷ ks) t k (inr h) = within_all n ks (and_parts (nat_le 1 x && nat_le x n) (are_within n ks) t).1 k h

fixed_steady : (n : ℕ) (ks : List ℕ) → are_within n (ks ++ []) ≡ true → IsSteady (fixed n ks)
fixed_steady n ks t = record {
  counts = λ ns k h. absurd h;
  pointers = λ ns k h. within_all n (ks ++ []) t k h;
  few = λ vs k h. absurd h;
}

-- counts before n, and no pointers
counted_steady : (ks : List ℕ) (own : List ℕ → ℕ) (n : ℕ) → ((ns : List ℕ) → n ≤ own ns) → are_within n (ks ++ []) ≡ true
    → ((vs : List Value) (k : ℕ) → Has ks k → count_in vs k ≤ own (counts_at vs (ks ++ []))) → IsSteady (counted ks own)
counted_steady ks own n low t few = record {
  counts = λ ns k h. let w = within_all n (ks ++ []) t k h in (w.0, omega (arith, w.1, low ns), refl, refl);
  pointers = λ ns k h. absurd h;
  few = few;
}

form_steady : (form : ℤ) (l m : Layout) → IsSteady l → IsSteady m → IsSteady (by_form form l m)
form_steady form l m a b = by_test (int_eq form (pos 1))
  where
    by_test : (c : Bool) → IsSteady (if c then l else m)
    by_test true = a
    by_test false = b

-- ---- the rows with counts

range_within : (first n : ℕ) (k : ℕ) → Has (range_with_len first n) k → (first ≤ k) × (k < first + n)
range_within first zero k h = absurd h
range_within first (suc n) k (inl e) = (omega (arith, e), omega (arith, e))
range_within first (suc n) k (inr h) = let w = range_within (first + 1) n k h in (omega (arith, w.0), omega (arith, w.1))

range_past : (first n k : ℕ) → k < first → is_among (range_with_len first n) k ≡ false
range_past first zero k lt = refl
range_past first (suc n) k lt = ap (λ b. b || is_among (range_with_len (first + 1) n) k) (ne_eqb first k (λ e. omega (arith, lt, e)))
    ∙ range_past (first + 1) n k (omega (arith, lt))

composite_steady : IsSteady (record { counts = 1 ∷ []; choices = []; own = λ c. 1 + nth c 0; pointers = λ c. range_with_len 2 (nth c 0); cut = [] })
composite_steady = record {
  counts = λ ns k h. at ns k h;
  pointers = λ ns k h. pointed (nth ns 0) k (has_append (range_with_len 2 (nth ns 0)) [] k h);
  few = λ vs k h. counted_few vs k h;
}
  where
    at : (ns : List ℕ) (k : ℕ) → Has (1 ∷ []) k → (1 ≤ k) × (k ≤ 1 + nth ns 0) × (is_among (range_with_len 2 (nth ns 0)) k ≡ false) × (is_among [] k ≡ false)
    at ns k (inl e) = (omega (arith, e), omega (arith, e), range_past 2 (nth ns 0) k (omega (arith, e)), refl)
    at ns k (inr h) = absurd h

    pointed : (n k : ℕ) → Has (range_with_len 2 n) k ⊎ Has [] k → (1 ≤ k) × (k ≤ 1 + n)
    pointed n k (inl h) = let w = range_within 2 n k h in (omega (arith, w.0), omega (arith, w.1))
    pointed n k (inr h) = absurd h

    counted_few : (vs : List Value) (k : ℕ) → Has (1 ∷ []) k → count_in vs k ≤ 1 + count_in vs 1
    counted_few vs k (inl e) = subst (λ j. count_in vs j ≤ 1 + count_in vs 1) e (omega arith)
    counted_few vs k (inr h) = absurd h

copious_own : ℕ → ℕ → ℕ
copious_own choice n = 2 + (if choice == 1 then 1 + 2 * n else (if choice == 2 then 3 * n else 6 * n))

copious_few : (choice n : ℕ) → (2 ≤ copious_own choice n) × (n ≤ copious_own choice n)
unfolding copious_own
copious_few choice n = by_tests (choice == 1) (choice == 2)
  where
    by_tests : (a b : Bool) → (2 ≤ 2 + (if a then 1 + 2 * n else (if b then 3 * n else 6 * n)))
        × (n ≤ 2 + (if a then 1 + 2 * n else (if b then 3 * n else 6 * n)))
    by_tests true b = (omega arith, omega arith)
    by_tests false true = (omega arith, omega arith)
    by_tests false false = (omega arith, omega arith)

copious_steady : IsSteady (record {
  counts = 2 ∷ [];
  choices = 1 ∷ [];
  pointers = λ _. [];
  cut = [];
  own = λ c. 2 + (if nth c 1 == 1 then 1 + 2 * nth c 0 else (if nth c 1 == 2 then 3 * nth c 0 else 6 * nth c 0));
})
unfolding copious_own
copious_steady = record {
  counts = λ ns k h. at (nth ns 1) (nth ns 0) k h;
  pointers = λ ns k h. absurd h;
  few = λ vs k h. counted_few vs k h;
}
  where
    at : (choice n k : ℕ) → Has (2 ∷ 1 ∷ []) k → (1 ≤ k) × (k ≤ copious_own choice n) × (is_among [] k ≡ false) × (is_among [] k ≡ false)
    at choice n k (inl e) = let w = copious_few choice n in (omega (arith, e), omega (arith, e, w.0), refl, refl)
    at choice n k (inr (inl e)) = let w = copious_few choice n in (omega (arith, e), omega (arith, e, w.0), refl, refl)
    at choice n k (inr (inr h)) = absurd h

    counted_few : (vs : List Value) (k : ℕ) → Has (2 ∷ []) k → count_in vs k ≤ copious_own (count_in vs 1) (count_in vs 2)
    counted_few vs k (inl e) = subst (λ j. count_in vs j ≤ copious_own (count_in vs 1) (count_in vs 2)) e (copious_few (count_in vs 1) (count_in vs 2)).1
    counted_few vs k (inr h) = absurd h

point_steady : IsSteady (record { counts = []; choices = []; own = λ _. 4; pointers = λ _. []; cut = 4 ∷ [] })
point_steady = record {
  counts = λ ns k h. absurd h;
  pointers = λ ns k h. within_all 4 (4 ∷ []) refl k h;
  few = λ vs k h. absurd h;
}

spline_steady : IsSteady (counted (4 ∷ []) (λ c. 4 + (nth c 0 + 1) + 12 * nth c 0 + 12))
spline_steady = counted_steady (4 ∷ []) (λ c. 4 + (nth c 0 + 1) + 12 * nth c 0 + 12) 4 (λ ns. omega arith) refl few
  where
    few : (vs : List Value) (k : ℕ) → Has (4 ∷ []) k → count_in vs k ≤ 4 + (count_in vs 4 + 1) + 12 * count_in vs 4 + 12
    few vs k (inl e) = subst (λ j. count_in vs j ≤ 4 + (count_in vs 4 + 1) + 12 * count_in vs 4 + 12) e (omega arith)
    few vs k (inr h) = absurd h

curve_steady : IsSteady (counted (1 ∷ 2 ∷ []) (λ c. 6 + (nth c 0 + nth c 1 + 2) + 4 * (nth c 0 + 1) + 5))
curve_steady = counted_steady (1 ∷ 2 ∷ []) (λ c. 6 + (nth c 0 + nth c 1 + 2) + 4 * (nth c 0 + 1) + 5) 2 (λ ns. omega arith) refl few
  where
    few : (vs : List Value) (k : ℕ) → Has (1 ∷ 2 ∷ []) k → count_in vs k ≤ 6 + (count_in vs 1 + count_in vs 2 + 2) + 4 * (count_in vs 1 + 1) + 5
    few vs k (inl e) = subst (λ j. count_in vs j ≤ 6 + (count_in vs 1 + count_in vs 2 + 2) + 4 * (count_in vs 1 + 1) + 5) e (omega arith)
    few vs k (inr (inl e)) = subst (λ j. count_in vs j ≤ 6 + (count_in vs 1 + count_in vs 2 + 2) + 4 * (count_in vs 1 + 1) + 5) e (omega arith)
    few vs k (inr (inr h)) = absurd h

surface_few : (a b c d p : ℕ) → (2 ≤ 9 + (a + c + 2) + (b + d + 2) + p + 4) × (4 ≤ 9 + (a + c + 2) + (b + d + 2) + p + 4)
    × (a ≤ 9 + (a + c + 2) + (b + d + 2) + p + 4) × (b ≤ 9 + (a + c + 2) + (b + d + 2) + p + 4) × (c ≤ 9 + (a + c + 2) + (b + d + 2) + p + 4)
    × (d ≤ 9 + (a + c + 2) + (b + d + 2) + p + 4)
surface_few a b c d p = (omega arith, omega arith, omega arith, omega arith, omega arith, omega arith)

abbrev most : List Value → ℕ
most vs = 9 + (count_in vs 1 + count_in vs 3 + 2) + (count_in vs 2 + count_in vs 4 + 2) + 4 * (count_in vs 1 + 1) * (count_in vs 2 + 1) + 4

counts_few : (vs : List Value) → (count_in vs 1 ≤ most vs) × (count_in vs 2 ≤ most vs) × (count_in vs 3 ≤ most vs) × (count_in vs 4 ≤ most vs)
counts_few vs = let w = surface_few (count_in vs 1) (count_in vs 2) (count_in vs 3) (count_in vs 4) (4 * (count_in vs 1 + 1) * (count_in vs 2 + 1))
    in (w.2, w.3, w.4, w.5)

surface_steady : IsSteady (counted (1 ∷ 2 ∷ 3 ∷ 4 ∷ []) (λ c. 9 + (nth c 0 + nth c 2 + 2) + (nth c 1 + nth c 3 + 2) + 4 * (nth c 0 + 1) * (nth c 1 + 1) + 4))
surface_steady =
    counted_steady (1 ∷ 2 ∷ 3 ∷ 4 ∷ []) (λ c. 9 + (nth c 0 + nth c 2 + 2) + (nth c 1 + nth c 3 + 2) + 4 * (nth c 0 + 1) * (nth c 1 + 1) + 4) 4
    (λ ns. let w = surface_few (nth ns 0) (nth ns 1) (nth ns 2) (nth ns 3) (4 * (nth ns 0 + 1) * (nth ns 1 + 1)) in w.1) refl few
  where
    few : (vs : List Value) (k : ℕ) → Has (1 ∷ 2 ∷ 3 ∷ 4 ∷ []) k → count_in vs k ≤ most vs
    few vs k (inl e) = subst (λ j. count_in vs j ≤ most vs) e (counts_few vs).0
    few vs k (inr (inl e)) = subst (λ j. count_in vs j ≤ most vs) e (counts_few vs).1
    few vs k (inr (inr (inl e))) = subst (λ j. count_in vs j ≤ most vs) e (counts_few vs).2
    few vs k (inr (inr (inr (inl e)))) = subst (λ j. count_in vs j ≤ most vs) e (counts_few vs).3
    few vs k (inr (inr (inr (inr h)))) = absurd h

-- ---- all rows

abbrev IsSteadyRow : ℕ × Layout → Type 0
IsSteadyRow row = IsSteady row.1

rows_steady : (form : ℤ) → AllByRecursion IsSteadyRow (listed form)
rows_steady form = (
  fixed_steady 7 [] refl,
  (
    composite_steady,
    (
      fixed_steady 11 [] refl,
      (
        copious_steady,
        (
          fixed_steady 9 (5 ∷ []) refl,
          (
            fixed_steady 6 [] refl,
            (
              spline_steady,
              (
                point_steady,
                (
                  fixed_steady 4 (1 ∷ 2 ∷ []) refl,
                  (
                    fixed_steady 4 (1 ∷ 2 ∷ []) refl,
                    (
                      fixed_steady 4 (1 ∷ []) refl,
                      (
                        fixed_steady 3 [] refl,
                        (
                          fixed_steady 12 [] refl,
                          (
                            curve_steady,
                            (
                              surface_steady,
                              (
                                fixed_steady 5 (5 ∷ []) refl,
                                (
                                  form_steady form (fixed 3 (1 ∷ 2 ∷ 3 ∷ [])) (fixed 2 (1 ∷ 2 ∷ [])) (fixed_steady 3 (1 ∷ 2 ∷ 3 ∷ []) refl)
                                      (fixed_steady 2 (1 ∷ 2 ∷ []) refl),
                                  (
                                    form_steady form (fixed 4 (1 ∷ 2 ∷ 4 ∷ [])) (fixed 3 (1 ∷ 2 ∷ [])) (fixed_steady 4 (1 ∷ 2 ∷ 4 ∷ []) refl)
                                        (fixed_steady 3 (1 ∷ 2 ∷ []) refl),
                                    (
                                      form_steady form (fixed 5 (1 ∷ 2 ∷ 5 ∷ [])) (fixed 4 (1 ∷ 2 ∷ [])) (fixed_steady 5 (1 ∷ 2 ∷ 5 ∷ []) refl)
                                          (fixed_steady 4 (1 ∷ 2 ∷ []) refl),
                                      (
                                        form_steady form (fixed 4 (1 ∷ 3 ∷ 4 ∷ [])) (fixed 2 (1 ∷ [])) (fixed_steady 4 (1 ∷ 3 ∷ 4 ∷ []) refl)
                                            (fixed_steady 2 (1 ∷ []) refl),
                                        (
                                          form_steady form (fixed 5 (1 ∷ 2 ∷ 5 ∷ [])) (fixed 4 (1 ∷ 2 ∷ [])) (fixed_steady 5 (1 ∷ 2 ∷ 5 ∷ []) refl)
                                              (fixed_steady 4 (1 ∷ 2 ∷ []) refl),
                                          (
                                            fixed_steady 4 [] refl,
                                            (
                                              fixed_steady 2 [] refl,
                                              tt,
                                            ),
                                          ),
                                        ),
                                      ),
                                    ),
                                  ),
                                ),
                              ),
                            ),
                          ),
                        ),
                      ),
                    ),
                  ),
                ),
              ),
            ),
          ),
        ),
      ),
    ),
  ),
)

found_steady : (kind : ℤ) (rows : List (ℕ × Layout)) (l : Layout) → AllByRecursion IsSteadyRow rows
    → option_map (λ (row : ℕ × Layout). row.1) (find (λ (row : ℕ × Layout). int_eq kind (pos row.0)) rows) ≡ Some l → IsSteady l
found_steady kind [] l all e = let no : None ≡ Some l = e in absurd cc
found_steady kind (row ∷ rows) l all e = by_test (int_eq kind (pos row.0)) e (λ h. found_steady kind rows l all.1 h)
  where
    by_test : (b : Bool) → option_map (λ (x : ℕ × Layout). x.1) (if b then Some row else find (λ (x : ℕ × Layout). int_eq kind (pos x.0)) rows) ≡ Some l
        → (option_map (λ (x : ℕ × Layout). x.1) (find (λ (x : ℕ × Layout). int_eq kind (pos x.0)) rows) ≡ Some l → IsSteady l) → IsSteady l
    by_test true h on = subst IsSteady (same_Some row.1 l h) all.0
    by_test false h on = on h

pub layout_steady : (e : Entry) (l : Layout) → layout_of e ≡ Some l → IsSteady l
layout_steady e l h = by_test (is_other_property e) h
  where
    by_test : (b : Bool) → (if b then None else option_map (λ (row : ℕ × Layout). row.1)
        (find (λ (row : ℕ × Layout). int_eq e.kind (pos row.0)) (listed e.form))) ≡ Some l → IsSteady l
    by_test true k = let no : None ≡ Some l = k in absurd cc
    by_test false k = found_steady e.kind (listed e.form) l (rows_steady e.form) k
