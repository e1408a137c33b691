use Rattle.std.proofs.Common.{◌≡◌, ◌++◌, ℕ, drop, flat_map, slice_get}
use Rattle.where_shells.specs.Pair.{row_fact, row_named}
use Rattle.where_shells.proofs.pairs.put_shown_rows.Given as goal

abbrev pub invariant-rows : goal.invariant-rows
invariant-rows l = record {
  text : l.page.out ++ flat_map (λ (r : ℕ). row_fact l.view.file.now l.shell_flag (slice_get l.places r)) (drop l.i l.rows) ≡ l.fn.page.out
      ++ flat_map (λ (r : ℕ). row_fact l.view.file.now l.shell_flag (slice_get l.places r)) l.rows;
  named : l.page.named ++ flat_map (λ (r : ℕ). row_named (slice_get l.places r)) (drop l.i l.rows) ≡ l.fn.page.named
      ++ flat_map (λ (r : ℕ). row_named (slice_get l.places r)) l.rows;
}
