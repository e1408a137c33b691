-- Where rows are paired, mates are an involution, and turning permutes the rows of a vertex.
use Rattle.std.specs.Prelude.{◌≡◌, ℕ, zero, suc, ◌+◌, ◌<◌, ◌≤◌, ◌==◌, Bool, true, false, not, List, length, Contains, Some, slice_get}
use Rattle.std.specs.List.{IsDistinct}
use Rattle.std.proofs.Common.{refl, sym, ◌∙◌, ap, subst, arith, ⊎_elim, get_or}
use Rattle.std.proofs.lemmas.Bool.{eq-eqb, eqb-true, cases_lt}
use Rattle.std.proofs.lemmas.Bool.Decides.{eqb_tells}
use Rattle.std.proofs.lemmas.List.Sorted.{length_permutation, Contains-permutation}
use Rattle.std.proofs.lemmas.Map.Keys.{IsDistinct-IsPermutation, apart_from_distinct}
use Rattle.std.proofs.lemmas.Option.{slice_get-get_or, get_or_from_slice_get, same_Some, slice_get_within}
use Rattle.solid_data.specs.Ring.{numbers_from}
use Rattle.solid_data.specs.declared.solid.VertexId.{VertexId}
use Rattle.solid_data.proofs.Members.{Has, Contains-from_Has}
use Rattle.solid_data.proofs.Occurring.{numbers_have, numbers_above, length-numbers}
use Rattle.solid_data.proofs.ObligationLemmas.{AllByRecursion-weaker}
use Rattle.edge_uses.specs.declared.row.Row.{Row}
use Rattle.edge_uses.specs.ShellRows.{ShellRows, AreRows}
use Rattle.edge_uses.specs.RowRelations.{AreMates, Follows}
use Rattle.edge_uses.specs.Mates.{ArePaired, AreInvolution, TurnsPermute}
use Rattle.edge_uses.proofs.Turn.{one_mate, has_mate, paired_rows, turning, not-not}

pub mates_back : (d : ShellRows) (r m : ℕ) → AreMates d r m → AreMates d m r
mates_back d r m h = record {
  row = h.mate;
  mate = h.row;
  at_r = h.at_m;
  at_m = h.at_r;
  one_edge = sym h.one_edge;
  opposite =
      not-not h.row.along h.mate.along h.opposite;
}

pub mates_involute : (d : ShellRows) → ArePaired d → AreInvolution d
mates_involute d whole = record {
  each = has_mate d (paired_rows d whole);
  one = one_mate d (paired_rows d whole);
  back = mates_back d;
}

differs : (x y : ℕ) → x < y → (x == y) ≡ false
differs x y lt = ⊎_elim (λ k. absurd (omega (arith, k.1, lt))) (λ k. k.0) (eqb_tells x y)

numbers_distinct : (base n : ℕ) → IsDistinct ◌==◌ (numbers_from base n)
unfolding IsDistinct
numbers_distinct base zero = tt
numbers_distinct base (suc n) = (
  AllByRecursion-weaker (λ y. base < y) (λ y. (base == y) ≡ false) (numbers_from (base + 1) n) (λ y. differs base y)
      (numbers_above base (base + 1) n (omega arith)),
  numbers_distinct (base + 1) n,
)

flips : (x y : ℕ) → (x == y) ≡ (y == x)
flips x y = by_test (x == y) refl (y == x) refl
  where
    by_test : (b : Bool) → (x == y) ≡ b → (c : Bool) → (y == x) ≡ c → (x == y) ≡ (y == x)
    by_test true e true k = e ∙ sym k
    by_test false e false k = e ∙ sym k
    by_test true e false k = absurd (let f : true ≡ false = sym (eq-eqb y x (sym (eqb-true x y e))) ∙ k in cc)
    by_test false e true k = absurd (let f : true ≡ false = sym (eq-eqb x y (sym (eqb-true y x k))) ∙ e in cc)

not_before : (xs : List ℕ) (q r t : ℕ) → IsDistinct ◌==◌ xs → slice_get xs q ≡ Some t → slice_get xs r ≡ Some t → q < r → ⊥
not_before xs q r t distinct at_q at_r lt =
    let a : get_or xs q t ≡ t = get_or_from_slice_get xs q t t at_q in
    let b : get_or xs r t ≡ t = get_or_from_slice_get xs r t t at_r in
    let f : (get_or xs q t == get_or xs r t) ≡ false = apart_from_distinct ◌==◌ xs q r t distinct lt (slice_get_within xs r t at_r) in
    let g : true ≡ false = sym (eq-eqb (get_or xs q t) (get_or xs r t) (a ∙ sym b)) ∙ f in
    absurd cc

-- no row follows two
pub follows_apart : (d : ShellRows) → AreRows d → (q r t : ℕ) → Follows d q t → Follows d r t → q ≡ r
follows_apart d rows q r t f g =
    let distinct : IsDistinct ◌==◌ d.follows = IsDistinct-IsPermutation ◌==◌ flips (numbers_from 0 (length d.rows)) d.follows rows.permuted
    (numbers_distinct 0 (length d.rows)) in
    let a : r ≤ q = ⊎_elim (λ lt. absurd (not_before d.follows q r t distinct f g lt)) (λ le. le) (cases_lt q r) in
    let b : q ≤ r = ⊎_elim (λ lt. absurd (not_before d.follows r q t distinct g f lt)) (λ le. le) (cases_lt r q) in
    omega (arith, a, b)

-- each row follows one
pub follows_onto : (d : ShellRows) → AreRows d → (t : ℕ) (b : Row) → slice_get d.rows t ≡ Some b
    → (m : ℕ) × (a : Row) × Follows d m t × (slice_get d.rows m ≡ Some a)
follows_onto d rows t b at =
    let low : t < length d.rows = slice_get_within d.rows t b at in
    let zero_more : 0 + t ≡ t = omega arith in
    let listed : Contains (numbers_from 0 (length d.rows)) t =
    Contains-from_Has (numbers_from 0 (length d.rows)) t (subst (λ n. Has (numbers_from 0 (length d.rows)) n) zero_more (numbers_have 0 (length d.rows) t low))
    in
    let c : Contains d.follows t = Contains-permutation (numbers_from 0 (length d.rows)) d.follows t rows.permuted listed in
    let long : length d.follows ≡ length d.rows = length_permutation (numbers_from 0 (length d.rows)) d.follows rows.permuted
    ∙ length-numbers 0 (length d.rows) in
    let here : Follows d c.0 t = slice_get-get_or d.follows c.0 t c.1 ∙ ap Some c.2 in
    (c.0, get_or d.rows c.0 b, here, slice_get-get_or d.rows c.0 b (omega (arith, c.1, long)))

pub turns_permute : (d : ShellRows) → ArePaired d → TurnsPermute d
turns_permute d whole = record {
  stays = λ v r t at turn. (turning d whole).same v r t turn at;
  each = (turning d whole).some;
  one = (turning d whole).one;
  apart = λ q r t (m, a, f) (k, b, g).
      let same : m ≡ k = follows_apart d whole.rows m k t f g in
      one_mate d (paired_rows d whole) m q r (mates_back d q m a) (subst (λ n. AreMates d n r) (sym same) (mates_back d r k b));
  onto = λ v t (b, at, e).
      let m = follows_onto d whole.rows t b at in
      let r = has_mate d (paired_rows d whole) m.0 m.1 m.3 in
      let mates : AreMates d r.0 m.0 = mates_back d m.0 r.0 r.1 in
      let met : m.1.to ≡ b.from = whole.meet m.0 t m.1 b m.2 m.3 at in
      let ends = whole.rows.exchanged_ends r.0 m.0 mates.row m.1 mates.at_r m.3
      (mates.one_edge ∙ ap (λ (x : Row). x.edge) (same_Some mates.mate m.1 (sym mates.at_m ∙ m.3)))
      (mates.opposite ∙ ap (λ (x : Row). not x.along) (same_Some mates.mate m.1 (sym mates.at_m ∙ m.3))) in
      (r.0, (mates.row, mates.at_r, ap (λ (w : VertexId). w.0) (ends.0 ∙ met) ∙ e), (m.0, mates, m.2));
}
