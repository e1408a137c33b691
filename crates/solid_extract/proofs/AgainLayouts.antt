-- The own values that a layout tells stay so in the extracted record.
use Rattle.std.specs.Prelude.{◌≡◌, ℕ, zero, suc, ◌+◌, ◌*◌, ◌<◌, ◌≤◌, ◌==◌, Bool, true, false, ◌&&◌, ◌||◌, nat_le, ℤ, pos, List, [], ◌∷◌, ◌++◌, Option, Some}
use Rattle.std.specs.Prelude.{None, if◌then◌else◌, option_map, unwrap_or, find}
use Rattle.std.specs.List.{AllByRecursion, list_all, range_with_len}
use Rattle.std.specs.Ordering.{int_eq}
use Rattle.std.proofs.Common.{refl, sym, ap, subst, ◌∙◌, arith}
use Rattle.std.proofs.lemmas.Bool.{and_parts, cond-true, cond-false, leb-true, ne_eqb}
use Rattle.std.proofs.lemmas.List.{append-nil}
use Rattle.std.proofs.lemmas.Option.{none-some, same_Some}
use Rattle.iges_directory.specs.declared.entry.Entry.{Entry}
use Rattle.iges_fields.specs.declared.value.Value.{Value}
use Rattle.entry_references.specs.EntrySets.{is_among}
use Rattle.entry_references.specs.Layout.{Layout, fixed, counted, nth, listed, is_other_property, layout_of, value_at, count_of, counts_at}

abbrev pub IsPlace : ℕ → ℕ → Type 0
IsPlace n k = (1 ≤ k) × (k ≤ n)

abbrev pub ArePlaces : ℕ → List ℕ → Type 0
ArePlaces n ks = AllByRecursion (IsPlace n) ks

abbrev pub IsCountPlace : Layout → List ℕ → ℕ → Type 0
IsCountPlace l c k = (1 ≤ k) × (k ≤ l.own c) × (is_among (l.pointers c) k ≡ false) × (is_among l.cut k ≡ false)

-- Counts and choices stand among the own values and are no pointers, pointers stand among them too, and there are at least as many as each count says.
pub record IsSound (l : Layout) : Type 0 where
  pub counts : (c : List ℕ) → AllByRecursion (IsCountPlace l c) (l.counts ++ l.choices)
  pub pointers : (c : List ℕ) → ArePlaces (l.own c) (l.pointers c ++ l.cut)
  pub enough : (vs : List Value) → AllByRecursion (λ k. unwrap_or (count_of (value_at vs k)) 0 ≤ l.own (counts_at vs (l.counts ++ l.choices))) l.counts

are_places : (n : ℕ) (ks : List ℕ) → list_all (λ k. nat_le 1 k && nat_le k n) ks ≡ true → ArePlaces n ks
are_places n [] t = tt
are_places n (k ∷ ks) t =
    let p = and_parts (nat_le 1 k && nat_le k n) (list_all (λ j. nat_le 1 j && nat_le j n) ks) t in
    let q = and_parts (nat_le 1 k) (nat_le k n) p.0 in
    ((leb-true 1 k q.0, leb-true k n q.1), are_places n ks p.1)

fixed_sound : (n : ℕ) (ps : List ℕ) → list_all (λ k. nat_le 1 k && nat_le k n) ps ≡ true → IsSound (fixed n ps)
fixed_sound n ps t = record { counts = λ c. tt; pointers = λ c. subst (ArePlaces n) (sym (append-nil ps)) (are_places n ps t); enough = λ vs. tt }

choice_sound : (b : Bool) (x y : Layout) → IsSound x → IsSound y → IsSound (if b then x else y)
choice_sound true x y h k = h
choice_sound false x y h k = k

range_in : (a n m : ℕ) → 1 ≤ a → a + n ≤ m + 1 → ArePlaces m (range_with_len a n)
range_in a zero m low high = tt
range_in a (suc n) m low high = ((low, omega (arith, high)), range_in (a + 1) n m (omega arith) (omega (arith, high)))

range_not : (a n k : ℕ) → k < a → is_among (range_with_len a n) k ≡ false
range_not a zero k lt = refl
range_not a (suc n) k lt = ap (λ (b : Bool). b || is_among (range_with_len (a + 1) n) k) (ne_eqb a k (λ e. omega (arith, lt, e)))
    ∙ range_not (a + 1) n k (omega (arith, lt))

composite_sound : IsSound (record { counts = 1 ∷ []; choices = []; own = λ c. 1 + nth c 0; pointers = λ c. range_with_len 2 (nth c 0); cut = [] })
composite_sound = record {
  counts = λ c. ((omega arith, first (nth c 0), range_not 2 (nth c 0) 1 (omega arith), refl), tt);
  pointers = λ c. subst (ArePlaces (1 + nth c 0)) (sym (append-nil (range_with_len 2 (nth c 0)))) (whole (nth c 0));
  enough = λ vs. (one (unwrap_or (count_of (value_at vs 1)) 0), tt);
}
  where
    first : (n : ℕ) → 1 ≤ 1 + n
    first n = omega arith

    one : (n : ℕ) → n ≤ 1 + n
    one n = omega arith

    whole : (n : ℕ) → ArePlaces (1 + n) (range_with_len 2 n)
    whole n = range_in 2 n (1 + n) (omega arith) (omega arith)

copious_sound : IsSound (record {
  counts = 2 ∷ [];
  choices = 1 ∷ [];
  pointers = λ _. [];
  cut = [];
  own = λ c. 2 + (if nth c 1 == 1 then 1 + 2 * nth c 0 else (if nth c 1 == 2 then 3 * nth c 0 else 6 * nth c 0));
})
copious_sound = record {
  counts = λ c. ((omega arith, two 2 _ (omega arith), refl, refl), ((omega arith, two 1 _ (omega arith), refl, refl), tt));
  pointers = λ c. tt;
  enough = λ vs. (big (unwrap_or (count_of (value_at vs 2)) 0) (unwrap_or (count_of (value_at vs 1)) 0 == 1) (unwrap_or (count_of (value_at vs 1)) 0 == 2), tt);
}
  where
    two : (k x : ℕ) → k ≤ 2 → k ≤ 2 + x
    two k x le = omega (arith, le)

    big : (n : ℕ) (p q : Bool) → n ≤ 2 + (if p then 1 + 2 * n else (if q then 3 * n else 6 * n))
    big n true q = omega arith
    big n false true = omega arith
    big n false false = omega arith

spline_sound : IsSound (counted (4 ∷ []) (λ c. 4 + (nth c 0 + 1) + 12 * nth c 0 + 12))
spline_sound = record {
  counts = λ c. ((omega arith, most (nth c 0), refl, refl), tt);
  pointers = λ c. tt;
  enough =
      λ vs. (enough (unwrap_or (count_of (value_at vs 4)) 0), tt);
}
  where
    most : (n : ℕ) → 4 ≤ 4 + (n + 1) + 12 * n + 12
    most n = omega arith

    enough : (n : ℕ) → n ≤ 4 + (n + 1) + 12 * n + 12
    enough n = omega arith

point_sound : IsSound (record { counts = []; choices = []; own = λ _. 4; pointers = λ _. []; cut = 4 ∷ [] })
point_sound = record { counts = λ c. tt; pointers = λ c. are_places 4 (4 ∷ []) refl; enough = λ vs. tt }

curve_sound : IsSound (counted (1 ∷ 2 ∷ []) (λ c. 6 + (nth c 0 + nth c 1 + 2) + 4 * (nth c 0 + 1) + 5))
curve_sound = record {
  counts = λ c. (
    (omega arith, most 1 (nth c 0) (nth c 1) (omega arith), refl, refl),
    ((omega arith, most 2 (nth c 0) (nth c 1) (omega arith), refl, refl), tt),
  );
  pointers = λ c. tt;
  enough = λ vs. (
    first (unwrap_or (count_of (value_at vs 1)) 0) (unwrap_or (count_of (value_at vs 2)) 0),
    (second (unwrap_or (count_of (value_at vs 1)) 0) (unwrap_or (count_of (value_at vs 2)) 0), tt),
  );
}
  where
    most : (k a b : ℕ) → k ≤ 6 → k ≤ 6 + (a + b + 2) + 4 * (a + 1) + 5
    most k a b le = omega (arith, le)

    first : (a b : ℕ) → a ≤ 6 + (a + b + 2) + 4 * (a + 1) + 5
    first a b = omega arith

    second : (a b : ℕ) → b ≤ 6 + (a + b + 2) + 4 * (a + 1) + 5
    second a b = omega arith

surface_sound : IsSound (counted (1 ∷ 2 ∷ 3 ∷ 4 ∷ []) (λ c. 9 + (nth c 0 + nth c 2 + 2) + (nth c 1 + nth c 3 + 2) + 4 * (nth c 0 + 1) * (nth c 1 + 1) + 4))
surface_sound = record {
  counts = λ c.
      let m : (k : ℕ) → k ≤ 9 → k ≤ 9 + (nth c 0 + nth c 2 + 2) + (nth c 1 + nth c 3 + 2) + 4 * (nth c 0 + 1) * (nth c 1 + 1) + 4 =
      λ k le. most k (nth c 0) (nth c 1) (nth c 2) (nth c 3) (4 * (nth c 0 + 1) * (nth c 1 + 1)) le in (
        (omega arith, m 1 (omega arith), refl, refl),
        ((omega arith, m 2 (omega arith), refl, refl), ((omega arith, m 3 (omega arith), refl, refl), ((omega arith, m 4 (omega arith), refl, refl), tt))),
      );
  pointers = λ c. tt;
  enough = λ vs.
      let n : ℕ → ℕ = λ k. unwrap_or (count_of (value_at vs k)) 0 in
      let e = each (n 1) (n 2) (n 3) (n 4) (4 * (n 1 + 1) * (n 2 + 1)) in (e.0, (e.1, (e.2, (e.3, tt))));
}
  where
    most : (k a b c d x : ℕ) → k ≤ 9 → k ≤ 9 + (a + c + 2) + (b + d + 2) + x + 4
    most k a b c d x le = omega (arith, le)

    each : (a b c d x : ℕ) → (a ≤ 9 + (a + c + 2) + (b + d + 2) + x + 4) × (b ≤ 9 + (a + c + 2) + (b + d + 2) + x + 4)
        × (c ≤ 9 + (a + c + 2) + (b + d + 2) + x + 4) × (d ≤ 9 + (a + c + 2) + (b + d + 2) + x + 4)
    each a b c d x = (omega arith, omega arith, omega arith, omega arith)

abbrev AreSound : List (ℕ × Layout) → Type 0
AreSound rows = AllByRecursion (λ (row : ℕ × Layout). IsSound row.1) rows

rows_sound : (form : ℤ) → AreSound (listed form)
rows_sound form = (
  fixed_sound 7 [] refl,
  (
    composite_sound,
    (
      fixed_sound 11 [] refl,
      (
        copious_sound,
        (
          fixed_sound 9 (5 ∷ []) refl,
          (
            fixed_sound 6 [] refl,
            (
              spline_sound,
              (
                point_sound,
                (
                  fixed_sound 4 (1 ∷ 2 ∷ []) refl,
                  (
                    fixed_sound 4 (1 ∷ 2 ∷ []) refl,
                    (
                      fixed_sound 4 (1 ∷ []) refl,
                      (
                        fixed_sound 3 [] refl,
                        (
                          fixed_sound 12 [] refl,
                          (
                            curve_sound,
                            (
                              surface_sound,
                              (
                                fixed_sound 5 (5 ∷ []) refl,
                                (
                                  choice_sound (int_eq form (pos 1)) (fixed 3 (1 ∷ 2 ∷ 3 ∷ [])) (fixed 2 (1 ∷ 2 ∷ [])) (fixed_sound 3 (1 ∷ 2 ∷ 3 ∷ []) refl)
                                      (fixed_sound 2 (1 ∷ 2 ∷ []) refl),
                                  (
                                    choice_sound (int_eq form (pos 1)) (fixed 4 (1 ∷ 2 ∷ 4 ∷ [])) (fixed 3 (1 ∷ 2 ∷ [])) (fixed_sound 4 (1 ∷ 2 ∷ 4 ∷ []) refl)
                                        (fixed_sound 3 (1 ∷ 2 ∷ []) refl),
                                    (
                                      choice_sound (int_eq form (pos 1)) (fixed 5 (1 ∷ 2 ∷ 5 ∷ [])) (fixed 4 (1 ∷ 2 ∷ []))
                                          (fixed_sound 5 (1 ∷ 2 ∷ 5 ∷ []) refl) (fixed_sound 4 (1 ∷ 2 ∷ []) refl),
                                      (
                                        choice_sound (int_eq form (pos 1)) (fixed 4 (1 ∷ 3 ∷ 4 ∷ [])) (fixed 2 (1 ∷ [])) (fixed_sound 4 (1 ∷ 3 ∷ 4 ∷ []) refl)
                                            (fixed_sound 2 (1 ∷ []) refl),
                                        (
                                          choice_sound (int_eq form (pos 1)) (fixed 5 (1 ∷ 2 ∷ 5 ∷ [])) (fixed 4 (1 ∷ 2 ∷ []))
                                              (fixed_sound 5 (1 ∷ 2 ∷ 5 ∷ []) refl) (fixed_sound 4 (1 ∷ 2 ∷ []) refl),
                                          (fixed_sound 4 [] refl, (fixed_sound 2 [] refl, tt)),
                                        ),
                                      ),
                                    ),
                                  ),
                                ),
                              ),
                            ),
                          ),
                        ),
                      ),
                    ),
                  ),
                ),
              ),
            ),
          ),
        ),
      ),
    ),
  ),
)

found_sound : (kind : ℤ) (rows : List (ℕ × Layout)) (l : Layout) → AreSound rows
    → option_map (λ (row : ℕ × Layout). row.1) (find (λ (row : ℕ × Layout). int_eq kind (pos row.0)) rows) ≡ Some l → IsSound l
found_sound kind [] l h e = absurd (none-some l e)
found_sound kind (x ∷ xs) l h e = by_test (int_eq kind (pos x.0)) refl e (found_sound kind xs l h.1)
  where
    by_test : (b : Bool) → int_eq kind (pos x.0) ≡ b → option_map (λ (row : ℕ × Layout). row.1) (find (λ (row : ℕ × Layout). int_eq kind (pos row.0)) (x ∷ xs))
        ≡ Some l
        → (option_map (λ (row : ℕ × Layout). row.1) (find (λ (row : ℕ × Layout). int_eq kind (pos row.0)) xs) ≡ Some l → IsSound l) → IsSound l
    by_test true t k on =
        let at = cond-true (int_eq kind (pos x.0)) (Some x) (find (λ (row : ℕ × Layout). int_eq kind (pos row.0)) xs) t in
        subst IsSound (same_Some x.1 l (sym (ap (λ (o : Option (ℕ × Layout)). option_map (λ (row : ℕ × Layout). row.1) o) at) ∙ k)) h.0
    by_test false t k on =
        let at = cond-false (int_eq kind (pos x.0)) (Some x) (find (λ (row : ℕ × Layout). int_eq kind (pos row.0)) xs) t in
        on (sym (ap (λ (o : Option (ℕ × Layout)). option_map (λ (row : ℕ × Layout). row.1) o) at) ∙ k)

pub layout_sound : (e : Entry) (l : Layout) → layout_of e ≡ Some l → IsSound l
layout_sound e l is = by_test (is_other_property e) is
  where
    by_test : (b : Bool) → (if b then None else option_map (λ (row : ℕ × Layout). row.1)
        (find (λ (row : ℕ × Layout). int_eq e.kind (pos row.0)) (listed e.form))) ≡ Some l → IsSound l
    by_test true k = absurd (none-some l k)
    by_test false k = found_sound e.kind (listed e.form) l (rows_sound e.form) k
