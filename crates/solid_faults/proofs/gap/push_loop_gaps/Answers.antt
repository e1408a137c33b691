use Rattle.std.proofs.Common.{◌∙◌, ap, map, get_or, ◌++◌, ◌+◌, arith, length}
use Rattle.solid_data.specs.Ring.{next_of_each}
use Rattle.solid_data.specs.declared.solid.LoopUse.{LoopUse}
use Rattle.edge_uses.specs.Joins.{end_of, start_of}
use Rattle.solid_faults.specs.Gaps.{gap_at}
use Rattle.solid_faults.proofs.GapSteps.{gap_step, gaps_done}
use Rattle.solid_faults.proofs.gap.push_loop_gaps.Goals as goal

pub uses-preserved : goal.uses-preserved
uses-preserved c f =
    gap_step c.args.solid.now (record { at = c.args.at; forwards = f; loop = c.args.walk.now }) c.uses.i c.uses.out.items c.push_gap.new.out.items _
    (omega (arith, c.uses-test.true, ap (length {A = LoopUse}) c.as_slice-uses.ensures)) (c.uses.invariant f)
    (c.in_ok-push_gap.ensures f
    ∙ (ap (λ n. c.uses.out.items ++ gap_at (record { at = c.args.at; forwards = f; loop = c.args.walk.now }) (c.uses.i + 1, n, c.start_of_next-start.result))
    (c.end_of_use-end.ensures ∙ ap (λ us. get_or (map (end_of c.args.solid.now) us) c.uses.i 0) c.as_slice-uses.ensures)
    ∙ ap (λ n. c.uses.out.items ++ gap_at (record { at = c.args.at; forwards = f; loop = c.args.walk.now })
    (c.uses.i + 1, get_or (map (end_of c.args.solid.now) c.args.walk.now.uses) c.uses.i 0, n))
    (c.start_of_next-start.ensures ∙ ap (λ us. get_or (next_of_each (map (start_of c.args.solid.now) us)) c.uses.i 0) c.as_slice-uses.ensures)))

pub returns : goal.returns
returns c f =
    gaps_done c.args.solid.now (record { at = c.args.at; forwards = f; loop = c.args.walk.now }) c.uses.i c.uses.out.items _
    (omega (arith, c.uses-test.false, ap (length {A = LoopUse}) c.as_slice-uses.ensures)) (c.uses.invariant f)
