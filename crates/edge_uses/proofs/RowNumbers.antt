-- Numbers of rows: those that start at a vertex, and those of a list of rows.
use Rattle.std.specs.Prelude.{◌≡◌, ◌≢◌, ◌≤◌, ◌+◌, ◌==◌, ◌⊎◌, ℕ, zero, suc, Bool, true, false, cond, List, [], ◌∷◌, ◌++◌, length, map, slice_get, Some, None}
use Rattle.std.proofs.Common.{refl, sym, ◌∙◌, ap, subst, arith, inl, inr}
use Rattle.std.proofs.lemmas.Bool.{eq-eqb}
use Rattle.std.proofs.lemmas.Bool.Decides.{eqb_tells}
use Rattle.std.proofs.lemmas.List.{map-append}
use Rattle.std.proofs.lemmas.Option.{same_Some}
use Rattle.solid_data.specs.declared.solid.RowId.{RowId}
use Rattle.solid_data.proofs.Members.{Has, NoRepeat, total}
use Rattle.edge_uses.specs.declared.row.Row.{Row}

-- the numbers, from n on, of the rows that start at a vertex
abbrev pub starting : ℕ → ℕ → List Row → List ℕ
starting v n [] = []
starting v n (r ∷ rows) = cond (r.from.0 == v) (n ∷ starting v (n + 1) rows) (starting v (n + 1) rows)

pub length-starting : (v n : ℕ) (rows : List Row) → length (starting v n rows) ≡ total (λ (r : Row). cond (r.from.0 == v) 1 0) rows
length-starting v n [] = refl
length-starting v n (r ∷ rows) = by_test (r.from.0 == v) (length-starting v (n + 1) rows)
  where
    by_test : (b : Bool) → length (starting v (n + 1) rows) ≡ total (λ (x : Row). cond (x.from.0 == v) 1 0) rows
        → length (cond b (n ∷ starting v (n + 1) rows) (starting v (n + 1) rows)) ≡ cond b 1 0 + total (λ (x : Row). cond (x.from.0 == v) 1 0) rows
    by_test true h = omega (arith, h)
    by_test false h = omega (arith, h)

pub starting_has : (v n k : ℕ) (rows : List Row) (r : Row) → slice_get rows k ≡ Some r → r.from.0 ≡ v → Has (starting v n rows) (n + k)
starting_has v n k [] r at e = absurd (let h : None ≡ Some r = at in cc)
starting_has v n zero (x ∷ rows) r at e =
    let same : (x.from.0 == v) ≡ true = eq-eqb x.from.0 v (ap (λ (y : Row). y.from.0) (same_Some x r at) ∙ e) in
    let here : n ≡ n + 0 = omega arith in
    subst (λ b. Has (cond b (n ∷ starting v (n + 1) rows) (starting v (n + 1) rows)) (n + 0)) (sym same) (inl here)
starting_has v n (suc k) (x ∷ rows) r at e =
    let later : Has (starting v (n + 1) rows) (n + 1 + k) = starting_has v (n + 1) k rows r at e in
    let number : n + 1 + k ≡ n + suc k = omega arith in
    by_test (x.from.0 == v) (subst (Has (starting v (n + 1) rows)) number later)
  where
    by_test : (b : Bool) → Has (starting v (n + 1) rows) (n + suc k) → Has (cond b (n ∷ starting v (n + 1) rows) (starting v (n + 1) rows)) (n + suc k)
    by_test true h = inr h
    by_test false h = h

pub starting_above : (v n x : ℕ) (rows : List Row) → Has (starting v n rows) x → n ≤ x
starting_above v n x [] h = absurd h
starting_above v n x (r ∷ rows) h = by_test (r.from.0 == v) h (starting_above v (n + 1) x rows)
  where
    by_test : (b : Bool) → Has (cond b (n ∷ starting v (n + 1) rows) (starting v (n + 1) rows)) x → (Has (starting v (n + 1) rows) x → n + 1 ≤ x) → n ≤ x
    by_test true (inl e) later = omega (arith, e)
    by_test true (inr m) later = omega (arith, later m)
    by_test false m later = omega (arith, later m)

pub starting_none : (v n : ℕ) (rows : List Row) → NoRepeat (starting v n rows)
starting_none v n [] = tt
starting_none v n (r ∷ rows) = by_test (r.from.0 == v) (starting_none v (n + 1) rows)
  where
    by_test : (b : Bool) → NoRepeat (starting v (n + 1) rows) → NoRepeat (cond b (n ∷ starting v (n + 1) rows) (starting v (n + 1) rows))
    by_test true h = ((λ m. let low : n + 1 ≤ n = starting_above v (n + 1) n rows m in omega (arith, low)), h)
    by_test false h = h

pub starting_is : (v n x : ℕ) (rows : List Row) → Has (starting v n rows) x → (k : ℕ) × (r : Row) × (x ≡ n + k) × (slice_get rows k ≡ Some r) × (r.from.0 ≡ v)
starting_is v n x [] h = absurd h
starting_is v n x (r ∷ rows) h =
    by_test (r.from.0 == v) (eqb_tells r.from.0 v) refl h (λ m. let t = starting_is v (n + 1) x rows m in (suc t.0, t.1, omega (arith, t.2), t.3, t.4))
  where
    by_test : (b : Bool) → (((r.from.0 == v) ≡ true) × (r.from.0 ≡ v)) ⊎ (((r.from.0 == v) ≡ false) × (r.from.0 ≢ v)) → (r.from.0 == v) ≡ b
        → Has (cond b (n ∷ starting v (n + 1) rows) (starting v (n + 1) rows)) x
        → (Has (starting v (n + 1) rows) x → (k : ℕ) × (q : Row) × (x ≡ n + k) × (slice_get (r ∷ rows) k ≡ Some q) × (q.from.0 ≡ v))
        → (k : ℕ) × (q : Row) × (x ≡ n + k) × (slice_get (r ∷ rows) k ≡ Some q) × (q.from.0 ≡ v)
    by_test true (inl y) e (inl m) later = (zero, r, omega (arith, m), refl, y.1)
    by_test true (inr z) e (inl m) later = absurd (let f : true ≡ false = sym e ∙ z.0 in cc)
    by_test true w e (inr m) later = later m
    by_test false w e m later = later m

-- one row more in a list of rows
pub numbers_pushed : (rows new : List RowId) (at : ℕ) → new ≡ rows ++ record { 0 = at } ∷ [] → map (λ (r : RowId). r.0) new ≡ map (λ (r : RowId). r.0) rows
    ++ at ∷ []
numbers_pushed rows new at e = ap (map (λ (r : RowId). r.0)) e ∙ map-append (λ (r : RowId). r.0) rows (record { 0 = at } ∷ [])
