use Rattle.std.proofs.Common.{sym, ◌∙◌, ap, length, arith}
use Rattle.brep_loops.proofs.Curves.{one_tuple, first_tuple, passes_now, positive}
use Rattle.brep_loops.proofs.loop_tuples.LoopTuplesIterator.next.Goals as goal

pub ends_of_tuple-ends-requires : goal.ends_of_tuple-ends-requires
ends_of_tuple-ends-requires c = passes_now c.self.inside.values.now c.self.inside.left c.self.inside.at c.if-self-eq0.false c.self.invariant

pub invariant_of-self : goal.invariant_of-self
invariant_of-self c =
    sym (one_tuple c.self.inside.values.now c.self.inside.left c.self.inside.at c.ends_of_tuple-ends.result.end c.ends_of_tuple-ends.result.curves
    (positive c.self.inside.left c.if-self-eq0.false) (passes_now c.self.inside.values.now c.self.inside.left c.self.inside.at c.if-self-eq0.false
    c.self.invariant) c.ends_of_tuple-ends.ensures)
    ∙ c.self.invariant

pub returns-clause-steps : goal.returns-clause-steps
returns-clause-steps c =
    sym c.self.view_is
    ∙ first_tuple c.self.inside.values.now c.self.inside.left c.self.inside.at c.ends_of_tuple-ends.result.end c.ends_of_tuple-ends.result.curves
    (positive c.self.inside.left c.if-self-eq0.false) c.ends_of_tuple-ends.ensures

pub returns-clause-goes : goal.returns-clause-goes
returns-clause-goes c =
    let shorter = ap length (sym c.self.view_is
    ∙ first_tuple c.self.inside.values.now c.self.inside.left c.self.inside.at c.ends_of_tuple-ends.result.end c.ends_of_tuple-ends.result.curves
    (positive c.self.inside.left c.if-self-eq0.false) c.ends_of_tuple-ends.ensures) in
    grind (arith, shorter)
