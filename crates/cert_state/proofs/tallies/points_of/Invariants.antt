use Rattle.std.specs.Prelude.{ℕ}
use Rattle.solid_data.specs.declared.solid.LoopAt.{LoopAt}
use Rattle.cert_state.proofs.VertexTallies.{CountsBefore, lies_of}
use Rattle.cert_state.proofs.tallies.points_of.Given as goal

abbrev pub invariant-points : goal.invariant-points
invariant-points l = CountsBefore (LoopAt × ℕ) lies_of l.fn.rows.points l.i l.fn.rows l.points
