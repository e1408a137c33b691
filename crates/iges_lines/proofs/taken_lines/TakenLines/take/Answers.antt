use Rattle.std.proofs.Common.{sym}
use Rattle.iges_lines.proofs.Putting.{due_passes}
use Rattle.iges_lines.proofs.taken_lines.TakenLines.take.Goals as goal

pub put-requires-clause-passes : goal.put-requires-clause-passes
put-requires-clause-passes c = rw (sym c.self.view_is) (due_passes
    (record { sections = c.self.inside.table; terminated = c.self.inside.terminated; number = c.self.inside.number; fault = c.self.inside.fault })
    c.self.inside.due c.args.line.now c.self.invariant (c.is_due.ensures c.if-is_due.true))
