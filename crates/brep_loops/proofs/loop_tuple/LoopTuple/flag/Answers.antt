use Rattle.std.proofs.Common.{◌∙◌, ap}
use Rattle.brep_lists.specs.Record.{LoopTuple}
use Rattle.brep_loops.proofs.Curves.{flag_in}
use Rattle.brep_loops.proofs.loop_tuple.LoopTuple.flag.Goals as goal

pub returns : goal.returns
returns c = c.flag_at.ensures ∙ flag_in c.self.inside.values.now c.self.inside.at 3 ∙ ap (λ (t : LoopTuple). t.flag) c.self.view_is
