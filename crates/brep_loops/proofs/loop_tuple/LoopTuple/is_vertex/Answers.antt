use Rattle.std.proofs.Common.{◌∙◌, ap}
use Rattle.brep_lists.specs.Record.{LoopTuple}
use Rattle.brep_loops.proofs.Curves.{first_flag_in}
use Rattle.brep_loops.proofs.loop_tuple.LoopTuple.is_vertex.Goals as goal

pub returns : goal.returns
returns c = c.flag_at.ensures ∙ first_flag_in c.self.inside.values.now c.self.inside.at ∙ ap (λ (t : LoopTuple). t.is_vertex) c.self.view_is
