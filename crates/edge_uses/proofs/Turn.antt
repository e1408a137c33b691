-- Where edges are paired, a row has one mate and turns to one row, which starts where it does.
use Rattle.std.specs.Prelude.{◌≡◌, ℕ, ◌==◌, ◌&&◌, Bool, true, false, not, Contains, Some, slice_get}
use Rattle.std.proofs.Common.{refl, sym, ◌∙◌, ap, arith}
use Rattle.std.proofs.lemmas.Bool.{eq-eqb, eqb-true, and_from, and_parts, not-true}
use Rattle.std.proofs.lemmas.Option.{same_Some}
use Rattle.solid_data.specs.declared.solid.EdgeId.{EdgeId}
use Rattle.solid_data.specs.declared.solid.VertexId.{VertexId}
use Rattle.edge_uses.specs.declared.row.Row.{Row}
use Rattle.edge_uses.specs.ShellRows.{ShellRows, EndsMeet}
use Rattle.edge_uses.specs.RowRelations.{AreMates, Turns, IsPaired, row_count}
use Rattle.edge_uses.specs.Mates.{ArePaired}
use Rattle.solid_data.proofs.Members.{Has-from_Contains, All-at, count_by-total, has_get}
use Rattle.edge_uses.proofs.Counting.{found_row, one_place}
use Rattle.edge_uses.proofs.Cycle.{AreTurning}
use Rattle.edge_uses.proofs.FollowRows.{EachIsFollowed}
use Rattle.edge_uses.proofs.RowShape.{EndsExchanged}

pub not-not : (b c : Bool) → b ≡ not c → c ≡ not b
not-not true true h = absurd cc
not-not true false h = refl
not-not false true h = refl
not-not false false h = absurd cc

-- Where each edge of a row is paired, a row turns to one row at most.
abbrev pub PairedRows : ShellRows → Type 0
PairedRows d = (n : ℕ) (a : Row) → slice_get d.rows n ≡ Some a → IsPaired d a.edge.0

pub pair_counts : (d : ShellRows) (e : ℕ) (b : Bool) → IsPaired d e → row_count d e b ≡ 1
pair_counts d e true h = h.0
pair_counts d e false h = h.1

pub one_of_edge : (d : ShellRows) (e : ℕ) (b : Bool) (n m : ℕ) (x y : Row) → row_count d e b ≡ 1 → slice_get d.rows n ≡ Some x → slice_get d.rows m ≡ Some y
    → x.edge.0 ≡ e → y.edge.0 ≡ e → x.along ≡ b → y.along ≡ b → n ≡ m
one_of_edge d e true n m x y one at_n at_m ex ey bx by =
    let p : Row → Bool = λ r. (r.edge.0 == e) && r.along in
    one_place p d.rows (sym (count_by-total p d.rows) ∙ one) n m x y at_n at_m (and_from (x.edge.0 == e) x.along (eq-eqb x.edge.0 e ex) bx)
    (and_from (y.edge.0 == e) y.along (eq-eqb y.edge.0 e ey) by)
one_of_edge d e false n m x y one at_n at_m ex ey bx by =
    let p : Row → Bool = λ r. (r.edge.0 == e) && not r.along in
    one_place p d.rows (sym (count_by-total p d.rows) ∙ one) n m x y at_n at_m (and_from (x.edge.0 == e) (not x.along) (eq-eqb x.edge.0 e ex) (ap not bx))
    (and_from (y.edge.0 == e) (not y.along) (eq-eqb y.edge.0 e ey) (ap not by))

-- a row has one mate
pub one_mate : (d : ShellRows) → PairedRows d → (r m k : ℕ) → AreMates d r m → AreMates d r k → m ≡ k
one_mate d paired n m k a b =
    let same : a.row ≡ b.row = same_Some a.row b.row (sym a.at_r ∙ b.at_r) in
    let pair : IsPaired d a.row.edge.0 = paired n a.row a.at_r in
    let edge_a : a.mate.edge.0 ≡ a.row.edge.0 = ap (λ (e : EdgeId). e.0) (sym a.one_edge) in
    let edge_b : b.mate.edge.0 ≡ a.row.edge.0 = ap (λ (e : EdgeId). e.0) (sym b.one_edge ∙ sym (ap (λ (r : Row). r.edge) same)) in
    let way_a : a.mate.along ≡ not a.row.along = not-not a.row.along a.mate.along a.opposite in
    let way_b : b.mate.along ≡ not a.row.along = not-not b.row.along b.mate.along b.opposite ∙ ap not (sym (ap (λ (r : Row). r.along) same)) in
    one_of_edge d a.row.edge.0 (not a.row.along) m k a.mate b.mate (pair_counts d a.row.edge.0 (not a.row.along) pair) a.at_m b.at_m edge_a edge_b way_a way_b

pub edge_id : (a b : EdgeId) → a.0 ≡ b.0 → a ≡ b
edge_id a b h = ap (λ n. record { 0 = n }) h

-- an edge that is paired has a row in each direction
pub row_of_edge_along : (d : ShellRows) (e : ℕ) → IsPaired d e → (n : ℕ) × (r : Row) × (slice_get d.rows n ≡ Some r) × (r.edge.0 ≡ e) × (r.along ≡ true)
row_of_edge_along d e h =
    let p : Row → Bool = λ r. (r.edge.0 == e) && r.along in
    let f = found_row p d.rows (omega (arith, h.0, count_by-total p d.rows)) in
    let k = and_parts (f.1.edge.0 == e) f.1.along f.3 in
    (f.0, f.1, f.2, eqb-true f.1.edge.0 e k.0, k.1)

pub row_of_edge_against : (d : ShellRows) (e : ℕ) → IsPaired d e → (n : ℕ) × (r : Row) × (slice_get d.rows n ≡ Some r) × (r.edge.0 ≡ e) × (r.along ≡ false)
row_of_edge_against d e h =
    let p : Row → Bool = λ r. (r.edge.0 == e) && not r.along in
    let f = found_row p d.rows (omega (arith, h.1, count_by-total p d.rows)) in
    let k = and_parts (f.1.edge.0 == e) (not f.1.along) f.3 in
    (f.0, f.1, f.2, eqb-true f.1.edge.0 e k.0, not-true f.1.along k.1)

-- each row has a mate
pub has_mate : (d : ShellRows) → PairedRows d → (r : ℕ) (row : Row) → slice_get d.rows r ≡ Some row → (m : ℕ) × AreMates d r m
has_mate d paired r row at = by_way row.along refl
  where
    by_way : (b : Bool) → row.along ≡ b → (m : ℕ) × AreMates d r m
    by_way true e =
        let k = row_of_edge_against d row.edge.0 (paired r row at) in
        (k.0, record { row = row; mate = k.1; at_r = at; at_m = k.2; one_edge = edge_id row.edge k.1.edge (sym k.3); opposite = e ∙ sym (ap not k.4) })
    by_way false e =
        let k = row_of_edge_along d row.edge.0 (paired r row at) in
        (k.0, record { row = row; mate = k.1; at_r = at; at_m = k.2; one_edge = edge_id row.edge k.1.edge (sym k.3); opposite = e ∙ sym (ap not k.4) })

-- the edge of each row is paired
pub paired_rows : (d : ShellRows) → ArePaired d → PairedRows d
paired_rows d whole n a at =
    let has : Contains d.edges a.edge.0 = All-at (λ (r : Row). Contains d.edges r.edge.0) d.rows whole.rows.edges_hold a (has_get d.rows n a at) in
    All-at (IsPaired d) d.edges whole.paired a.edge.0 (Has-from_Contains d.edges a.edge.0 has)

pub turns_to_one : (d : ShellRows) → PairedRows d → (x y z : ℕ) → Turns d x y → Turns d x z → y ≡ z
turns_to_one d paired x y z (m, a, f) (k, b, g) =
    let same : m ≡ k = one_mate d paired x m k a b in
    same_Some y z (sym f ∙ (ap (λ n. slice_get d.follows n) same ∙ g))

pub are_turning : (d : ShellRows) → PairedRows d → EndsMeet d → EndsExchanged d → EachIsFollowed d → AreTurning d
are_turning d paired meet exchanged followed = record {
  one = turns_to_one d paired;
  some = λ v x (row, at, e).
      let m = has_mate d paired x row at in
      let f = followed m.0 m.1.mate m.1.at_m in
      (f.0, (m.0, m.1, f.2));
  same = λ v x y (m, a, f) (row, at, e).
      let g = followed m a.mate a.at_m in
      let there : y ≡ g.0 = same_Some y g.0 (sym f ∙ g.2) in
      let at_y : slice_get d.rows y ≡ Some g.1 = ap (λ n. slice_get d.rows n) there ∙ g.3 in
      let met : a.mate.to.0 ≡ g.1.from.0 = ap (λ (w : VertexId). w.0) (meet m y a.mate g.1 f a.at_m at_y) in
      let swapped : a.row.from.0 ≡ a.mate.to.0 = exchanged x m a.row a.mate a.at_r a.at_m a.one_edge a.opposite in
      let starts : a.row.from.0 ≡ v = ap (λ (r : Row). r.from.0) (same_Some a.row row (sym a.at_r ∙ at)) ∙ e in
      (g.1, at_y, sym met ∙ (sym swapped ∙ starts));
}

pub turning : (d : ShellRows) → ArePaired d → AreTurning d
turning d whole =
    are_turning d (paired_rows d whole) whole.meet
    (λ n m a b at_n at_m one opposite. ap (λ (w : VertexId). w.0) (whole.rows.exchanged_ends n m a b at_n at_m one opposite).0)
    whole.rows.followed
