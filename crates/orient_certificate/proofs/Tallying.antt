-- What the rows before one were seen to do.
use Rattle.std.specs.Prelude.{◌≡◌, ◌<◌, ◌+◌, ◌-◌, ◌^◌, ℕ, [], Contains, Some, length, replicate, slice_get, get_or}
use Rattle.std.proofs.Common.{refl, sym, ◌∙◌, ap, subst, arith}
use Rattle.std.proofs.lemmas.List.{get_or-replicate, length-replicate, length-set, length-take-le}
use Rattle.std.proofs.lemmas.Option.{slice_get_within}
use Rattle.solid_data.proofs.Members.{All-at, has_get}
use Rattle.solid_data.specs.Cells.{Celled, cell_of, with_cell}
use Rattle.solid_data.specs.Ranges.{IsWithin, IsSpanOf}
use Rattle.edge_uses.specs.ShellRows.{ShellRows, AreRows}
use Rattle.edge_uses.specs.declared.row.Row.{Row}
use Rattle.orient_certificate.specs.RowsByEdge.{summary, once_more, seen_of}
use Rattle.orient_certificate.specs.declared.rows_by_edge.Seen.{Seen}
use Rattle.orient_certificate.proofs.Places.{IsSeen, seen_few, tally_step}
use Rattle.orient_certificate.proofs.Stepping.{edge_within}

pub record TallyBefore (d : ShellRows) (i : ℕ) (c : Celled Seen) : Type 0 where
  pub numbers : c.numbers ≡ d.edges
  pub span : IsSpanOf c.span d.edges
  pub blank : c.blank ≡ summary []
  pub long : length c.cells ≡ c.span.count
  pub each : (g : ℕ) → IsWithin c.span g → IsSeen d i g (seen_of c.span c.cells g)

pub tally_first : (d : ShellRows) (c : Celled Seen) → c.numbers ≡ d.edges → IsSpanOf c.span d.edges → c.blank ≡ summary []
    → c.cells ≡ replicate c.span.count (summary []) → TallyBefore d 0 c
tally_first d c numbers span blank cells = record {
  numbers = numbers;
  span = span;
  blank = blank;
  long = ap (λ xs. length xs) cells ∙ length-replicate c.span.count (summary []);
  each = λ g within. ap (λ xs. get_or xs (g - c.span.least) (summary [])) cells ∙ get_or-replicate c.span.count (g - c.span.least) (summary []) (summary [])
      (omega (arith, within));
}

module _ (d : ShellRows) (i : ℕ) (c : Celled Seen) (row : Row) (whole : AreRows d) (t : TallyBefore d i c) (at : slice_get d.rows i ≡ Some row) where
  pub row_known : Contains c.numbers row.edge.0
  row_known = subst (λ ns. Contains ns row.edge.0) (sym t.numbers)
      (All-at (λ (r : Row). Contains d.edges r.edge.0) d.rows whole.edges_hold row (has_get d.rows i row at))

  pub row_within : IsWithin c.span row.edge.0
  row_within = edge_within d c.span i row whole t.span at

  was_seen : cell_of c row.edge.0 ≡ seen_of c.span c.cells row.edge.0
  was_seen = ap (λ b. get_or c.cells (row.edge.0 - c.span.least) b) t.blank

  pub row_few : (cell_of c row.edge.0).count < 2 ^ 29
  row_few =
      let lt : i < length d.rows = slice_get_within d.rows i row at in
      omega (
        arith,
        lt,
        seen_few d i row.edge.0 (cell_of c row.edge.0) (was_seen ∙ t.each row.edge.0 row_within),
        length-take-le i d.rows (omega (arith, lt)),
        whole.few,
      )

  pub row_seen : (new : Celled Seen) → new ≡ with_cell c row.edge.0 (once_more (cell_of c row.edge.0) i) → TallyBefore d (i + 1) new
  row_seen new is = subst (TallyBefore d (i + 1)) (sym is) (record {
    numbers = t.numbers;
    span = t.span;
    blank = t.blank;
    long = length-set c.cells (row.edge.0 - c.span.least) (once_more (cell_of c row.edge.0) i) ∙ t.long;
    each = tally_step d i c.span c.cells row (cell_of c row.edge.0) (once_more (cell_of c row.edge.0) i) at t.long row_within t.each was_seen refl;
  })
