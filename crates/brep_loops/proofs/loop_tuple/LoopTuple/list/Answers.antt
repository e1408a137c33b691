use Rattle.std.proofs.Common.{◌∙◌, ap, rules}
use Rattle.std.proofs.lemmas.Int.{to_z-of_z}
use mir.Val.{SFits}
use mir.Syntax.{w64}
use Rattle.brep_lists.specs.Record.{LoopTuple}
use Rattle.brep_loops.proofs.Curves.{int_in}
use Rattle.brep_loops.proofs.loop_tuple.LoopTuple.list.Goals as goal

pub returns : goal.returns
returns c =
    let fits : SFits w64 c.int_at.result = search rules in
    to_z-of_z w64 c.int_at.result fits ∙ c.int_at.ensures ∙ int_in c.self.inside.values.now c.self.inside.at 1 ∙ ap (λ (t : LoopTuple). t.«list») c.self.view_is
