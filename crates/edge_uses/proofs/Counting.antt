-- Members, lists without repeats, and counts.
use Rattle.std.specs.Prelude.{◌≡◌, ℕ, zero, suc, ◌+◌, ◌*◌, ◌≤◌, ◌==◌, ◌&&◌, Bool, true, false, not, cond, List, [], ◌∷◌, length, slice_get, Some}
use Rattle.std.specs.List.{AllByRecursion}
use Rattle.std.proofs.Common.{refl, sym, ◌∙◌, ap, subst, arith, inl, inr, ⊎_elim}
use Rattle.std.proofs.lemmas.Bool.Decides.{eqb_tells}
use Rattle.std.proofs.lemmas.Option.{same_Some}
use Rattle.edge_uses.specs.declared.row.Row.{Row}
use Rattle.edge_uses.specs.ShellRows.{ShellRows}
use Rattle.edge_uses.specs.RowRelations.{row_count}
use Rattle.solid_data.proofs.Members.{Has, NoRepeat, total, count_by-total, total-plus, total-zero, total-same, all_two, all_of_two}

-- a row that passes is there where one is counted
pub found_row : (p : Row → Bool) (rows : List Row) → 1 ≤ total (λ x. cond (p x) 1 0) rows → (n : ℕ) × (r : Row) × (slice_get rows n ≡ Some r) × (p r ≡ true)
found_row p [] h = absurd (omega (arith, h))
found_row p (x ∷ rows) h = by_test (p x) refl h (λ k. found_row p rows k)
  where
    by_test : (b : Bool) → p x ≡ b → 1 ≤ cond b 1 0 + total (λ y. cond (p y) 1 0) rows
        → (1 ≤ total (λ y. cond (p y) 1 0) rows → (n : ℕ) × (r : Row) × (slice_get rows n ≡ Some r) × (p r ≡ true))
        → (n : ℕ) × (r : Row) × (slice_get (x ∷ rows) n ≡ Some r) × (p r ≡ true)
    by_test true e k on = (zero, x, refl, e)
    by_test false e k on = let f = on (omega (arith, k)) in (suc f.0, f.1, f.2, f.3)

-- 1 at the number and 0 elsewhere
abbrev pub mark : ℕ → ℕ → ℕ
mark k e = cond (k == e) 1 0

pub mark-other : (k e : ℕ) → (e ≡ k → ⊥) → mark k e ≡ 0
mark-other k e ne = ⊎_elim (λ same. absurd (ne (sym same.1))) (λ other. ap (λ b. cond b 1 0) other.0) (eqb_tells k e)

pub mark-same : (k e : ℕ) → e ≡ k → mark k e ≡ 1
mark-same k e same = ⊎_elim (λ y. ap (λ b. cond b 1 0) y.0) (λ n. absurd (n.1 (sym same))) (eqb_tells k e)

mark-most : (k e : ℕ) → mark k e ≤ 1
mark-most k e = ⊎_elim (λ same. let h : mark k e ≡ 1 = ap (λ b. cond b 1 0) same.0 in omega (arith, h))
    (λ other. let h : mark k e ≡ 0 = ap (λ b. cond b 1 0) other.0 in omega (arith, h)) (eqb_tells k e)

marks-none : (k : ℕ) (es : List ℕ) → (Has es k → ⊥) → total (mark k) es ≡ 0
marks-none k [] without = refl
marks-none k (e ∷ es) without = let here = mark-other k e (λ h. without (inl h)) in let there = marks-none k es (λ h. without (inr h)) in omega
    (arith, here, there)

marks-most : (k : ℕ) (es : List ℕ) → NoRepeat es → total (mark k) es ≤ 1
marks-most k [] none = omega arith
marks-most k (e ∷ es) none =
    ⊎_elim
    (λ same. let rest = marks-none k es (λ h. none.0 (subst (Has es) same.1 h)) in omega (arith, rest, mark-most k e))
    (λ other. let h : mark k e ≡ 0 = ap (λ b. cond b 1 0) other.0 in omega (arith, h, marks-most k es none.1))
    (eqb_tells k e)

-- how many rows have the edge
abbrev pub uses_of_edge : List Row → ℕ → ℕ
uses_of_edge rows e = total (λ (r : Row). mark r.edge.0 e) rows

-- each row has one edge
pub uses-most : (rows : List Row) (es : List ℕ) → NoRepeat es → total (uses_of_edge rows) es ≤ length rows
uses-most [] es none = let h = total-zero es in omega (arith, h)
uses-most (r ∷ rows) es none =
    let h = total-plus (mark r.edge.0) (uses_of_edge rows) es in
    omega (arith, h, marks-most r.edge.0 es none, uses-most rows es none)

pub marks-one : (k : ℕ) (es : List ℕ) → NoRepeat es → Has es k → total (mark k) es ≡ 1
marks-one k [] none h = absurd h
marks-one k (e ∷ es) none (inl same) =
    let here : mark k e ≡ 1 = mark-same k e same in
    let rest = marks-none k es (λ h. none.0 (subst (Has es) (sym same) h)) in
    omega (arith, here, rest)
marks-one k (e ∷ es) none (inr h) =
    let here : mark k e ≡ 0 = mark-other k e (λ same. none.0 (subst (Has es) (sym same) h)) in
    omega (arith, here, marks-one k es none.1 h)

-- where each row has one of the edges, they have all rows
pub uses-all : (rows : List Row) (es : List ℕ) → NoRepeat es → AllByRecursion (λ (r : Row). Has es r.edge.0) rows → total (uses_of_edge rows) es ≡ length rows
uses-all [] es none known = total-zero es
uses-all (r ∷ rows) es none known =
    let h = total-plus (mark r.edge.0) (uses_of_edge rows) es in
    omega (arith, h, marks-one r.edge.0 es none known.0, uses-all rows es none known.1)

both_ways : (t b : Bool) → cond (t && b) 1 0 + cond (t && not b) 1 0 ≡ cond t 1 0
both_ways true true = refl
both_ways true false = refl
both_ways false true = refl
both_ways false false = refl

-- the rows along an edge and those against it are those that have it
pub counts_of_edge : (d : ShellRows) (e : ℕ) → row_count d e true + row_count d e false ≡ uses_of_edge d.rows e
counts_of_edge d e =
    let a = count_by-total (λ (r : Row). (r.edge.0 == e) && r.along) d.rows in
    let b = count_by-total (λ (r : Row). (r.edge.0 == e) && not r.along) d.rows in
    let both = total-plus (λ (r : Row). cond ((r.edge.0 == e) && r.along) 1 0) (λ (r : Row). cond ((r.edge.0 == e) && not r.along) 1 0) d.rows in
    let one = total-same (λ (r : Row). cond ((r.edge.0 == e) && r.along) 1 0 + cond ((r.edge.0 == e) && not r.along) 1 0) (λ (r : Row). mark r.edge.0 e)
    (λ r. both_ways (r.edge.0 == e) r.along) d.rows in
    omega (arith, a, b, both, one)

-- Where each of the edges has a row along it and one against it, and there are two rows for each edge, these are all.
pub paired_by_count : (d : ShellRows) (es : List ℕ) → NoRepeat es → 2 * length es ≡ length d.rows
    → ((e : ℕ) → Has es e → (1 ≤ row_count d e true) × (1 ≤ row_count d e false))
    → (e : ℕ) → Has es e → (row_count d e true ≡ 1) × (row_count d e false ≡ 1)
paired_by_count d es none twice each e m =
    let low : (x : ℕ) → Has es x → 2 ≤ uses_of_edge d.rows x = λ x n. omega (arith, each x n, counts_of_edge d x) in
    let two : uses_of_edge d.rows e ≡ 2 = all_two (uses_of_edge d.rows) es low (omega (arith, uses-most d.rows es none, twice)) e m in
    (omega (arith, each e m, counts_of_edge d e, two), omega (arith, each e m, counts_of_edge d e, two))

-- a row that passes is counted
pub counted : (p : Row → Bool) (rows : List Row) (n : ℕ) (r : Row) → slice_get rows n ≡ Some r → p r ≡ true → 1 ≤ total (λ x. cond (p x) 1 0) rows
counted p [] n r at passes = absurd cc
counted p (x ∷ rows) zero r at passes =
    let h : ◌≡◌ {A = ℕ} (cond (p x) 1 0) 1 = ap (λ b. cond b 1 0) (ap p (same_Some x r at) ∙ passes) in omega (arith, h)
counted p (x ∷ rows) (suc n) r at passes = omega (arith, counted p rows n r at passes)

-- where one row passes, it stands at one place
pub one_place : (p : Row → Bool) (rows : List Row) → total (λ x. cond (p x) 1 0) rows ≡ 1 → (n m : ℕ) (a b : Row)
    → slice_get rows n ≡ Some a → slice_get rows m ≡ Some b → p a ≡ true → p b ≡ true → n ≡ m
one_place p [] one n m a b at_n at_m yes_a yes_b = absurd cc
one_place p (x ∷ rows) one zero zero a b at_n at_m yes_a yes_b = refl
one_place p (x ∷ rows) one zero (suc m) a b at_n at_m yes_a yes_b =
    let h : ◌≡◌ {A = ℕ} (cond (p x) 1 0) 1 = ap (λ t. cond t 1 0) (ap p (same_Some x a at_n) ∙ yes_a) in
    absurd (omega (arith, h, one, counted p rows m b at_m yes_b))
one_place p (x ∷ rows) one (suc n) zero a b at_n at_m yes_a yes_b =
    let h : ◌≡◌ {A = ℕ} (cond (p x) 1 0) 1 = ap (λ t. cond t 1 0) (ap p (same_Some x b at_m) ∙ yes_b) in
    absurd (omega (arith, h, one, counted p rows n a at_n yes_a))
one_place p (x ∷ rows) one (suc n) (suc m) a b at_n at_m yes_a yes_b =
    let rest = counted p rows n a at_n yes_a in
    ap suc (one_place p rows (omega (arith, one, rest)) n m a b at_n at_m yes_a yes_b)

-- Where all edges are paired, there are two rows for each.
pub two_rows_each : (d : ShellRows) → NoRepeat d.edges → AllByRecursion (λ (r : Row). Has d.edges r.edge.0) d.rows
    → ((e : ℕ) → Has d.edges e → (row_count d e true ≡ 1) × (row_count d e false ≡ 1)) → 2 * length d.edges ≡ length d.rows
two_rows_each d none known paired =
    let two : (e : ℕ) → Has d.edges e → uses_of_edge d.rows e ≡ 2 = λ e m. let p = paired e m in omega (arith, p.0, p.1, counts_of_edge d e) in
    omega (arith, all_of_two (uses_of_edge d.rows) d.edges two, uses-all d.rows d.edges none known)

-- how many of a list have this number
abbrev pub times : {A : Type 0} → (A → ℕ) → ℕ → List A → ℕ
times f v xs = total (λ x. cond (f x == v) 1 0) xs

pub times_few : {A : Type 0} (f : A → ℕ) (v : ℕ) (xs : List A) → times f v xs ≤ length xs
times_few f v [] = omega arith
times_few f v (x ∷ xs) = by_test (f x == v) (times_few f v xs)
  where
    by_test : (b : Bool) → times f v xs ≤ length xs → cond b 1 0 + times f v xs ≤ suc (length xs)
    by_test true h = omega (arith, h)
    by_test false h = omega (arith, h)
