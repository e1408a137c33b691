use Rattle.std.proofs.Common.{rules, ◌<◌, ◌^◌, refl, arith, length}
use Rattle.solid_data.proofs.Members.{get_some, has_get}
use Rattle.shell_change.proofs.Matching.{one_below, all_below, none_below}
use Rattle.shell_rules.specs.Closed.{IsClosedShell}
use Rattle.solid_faults.proofs.Definite.{few_shells}
use Rattle.solid_faults.proofs.SharedSteps.{none_below as no_vertex_below}
use Rattle.change_passes.specs.Passes.{pieces_before}
use Rattle.change_passes.proofs.Pieces.{piece_closed}
use Rattle.change_passes.proofs.judging.are_closed.Goals as goal

pub pieces-init : goal.pieces-init
pieces-init c = record { below = no_vertex_below c.args.pieces.now; closed = none_below _ c.args.pieces.now.shells }

pub overflow_cast-at : goal.overflow_cast-at
overflow_cast-at c =
    let few = few_shells c.args.pieces.now c.shell_count-k-end.ensures.numbered in
    let small : c.pieces.k < 2 ^ 32 = omega (arith, few, c.pieces-test.true, c.shell_count-k-end.ensures.count) in
    search (rules, small)

pub pieces-preserved : goal.pieces-preserved
pieces-preserved c =
    let lt : c.pieces.k < length c.args.pieces.now.shells = omega (arith, c.pieces-test.true, c.shell_count-k-end.ensures.count) in
    let h = get_some c.args.pieces.now.shells c.pieces.k lt in
    record {
      below = c.below_next-below.ensures c.args.pieces.now c.pieces.k c.shell_count-k-end.ensures.numbered lt c.pieces.invariant.below c.in_ok-rows.ensures;
      closed = one_below (λ piece h. IsClosedShell c.args.pieces.now (pieces_before c.args.of.0 piece) h) c.args.pieces.now.shells c.pieces.k h.0 h.1
          (piece_closed c.args.pieces.now c.args.of.0 c.pieces.k h.0 c.in_ok-faults.faults c.shell_count-k-end.ensures.numbered
          (has_get c.args.pieces.now.shells c.pieces.k h.0 h.1) (c.in_ok-faults.ensures h.0 h.1)
          (c.if-not-is_closed_piece.ensures.outer refl) (c.if-not-is_closed_piece.ensures.void refl)) c.pieces.invariant.closed;
    }

pub returns : goal.returns
returns c = λ t.
    all_below (λ piece h. IsClosedShell c.args.pieces.now (pieces_before c.args.of.0 piece) h) c.args.pieces.now.shells c.pieces.k
    (omega (arith, c.pieces-test.false, c.shell_count-k-end.ensures.count)) c.pieces.invariant.closed
