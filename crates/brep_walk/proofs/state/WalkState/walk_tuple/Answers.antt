use Rattle.std.proofs.Common.{pos}
use Rattle.brep_walk.specs.Places.{used_places, tuple_at}
use Rattle.brep_walk.proofs.Faults.{fault_front, handed}
use Rattle.brep_walk.proofs.state.WalkState.walk_tuple.Goals as goal

pub returns-in_err-made-clause-fault : goal.returns-in_err-made-clause-fault
returns-in_err-made-clause-fault c =
    handed (tuple_at c.args.self.now.lists (pos c.args.at.entity.0) c.args.at.item c.args.tuple.now) c.from_residual.result _
    (fault_front (used_places c.args.self.now.lists (pos c.args.at.entity.0) c.args.at.item c.args.tuple.now.list c.args.tuple.now.index
    c.args.tuple.now.is_vertex) _ _ c.in_err-made.ensures.fault)
    c.from_residual.ensures.1
