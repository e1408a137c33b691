use Rattle.std.proofs.Common.{◌∙◌, ap, pos}
use Rattle.std.proofs.lemmas.Int.{to_z-of_z}
use mir.Syntax.{w64}
use Rattle.brep_walk.specs.Places.{tuples}
use Rattle.brep_walk.proofs.LoopSteps.{no_loop, loop_twice, uses_fail, loop_whole, loop_made}
use Rattle.brep_walk.proofs.WalkSteps.{walks_so}
use Rattle.brep_walk.proofs.state.WalkState.walk_loop.Goals as goal

pub returns-in_err-entity-clause-fault : goal.returns-in_err-entity-clause-fault
returns-in_err-entity-clause-fault c =
    no_loop c.args.self.now.lists (pos c.args.at.entity.0) c.args.at.item c.args.self.now.loops c.args.number _ (to_z-of_z w64 c.args.number c.ranges.number)
    c.from_residual.result _
    c.in_err-entity.ensures.fault
    c.from_residual.ensures.1

pub returns-in_err-note-clause-fault : goal.returns-in_err-note-clause-fault
returns-in_err-note-clause-fault c =
    loop_twice c.args.self.now.lists (pos c.args.at.entity.0) c.args.at.item c.args.self.now.loops c.args.number _
    (to_z-of_z w64 c.args.number c.ranges.number) c.from_residual-in_err-note.result _
    c.in_ok-entity.ensures.holds
    c.in_err-note.ensures.fault c.from_residual-in_err-note.ensures.1

pub returns-in_err-uses-clause-fault : goal.returns-in_err-uses-clause-fault
returns-in_err-uses-clause-fault c =
    uses_fail c.args.self.now.lists (pos c.args.at.entity.0) c.args.at.item c.args.self.now.loops c.args.number _
    (to_z-of_z w64 c.args.number c.ranges.number) c.from_residual-in_err-uses.result _ c.record.new.self c.in_ok-entity.ensures.file c.in_ok-entity.entity.0
    c.in_ok-entity.ensures.named.0 c.in_ok-entity.ensures.holds c.in_ok-note.ensures.holds c.in_err-uses.ensures.fault
    c.from_residual-in_err-uses.ensures.1

pub returns-clause-walks : goal.returns-clause-walks
returns-clause-walks c =
    let f = c.args.self.now.lists in
    let e = c.in_ok-uses.ensures in
    walks_so c.args.self.now c.loop_uses.new.self _ c.record.new.self c.in_ok-entity.ensures.file (λ g. c.in_ok-entity.listed) (tuples f c.args.number)
    (c.in_ok-entity.ensures.named.1 ∙ ap (tuples f) (to_z-of_z w64 c.args.number c.ranges.number)) e.walks.file e.walks.stands e.walks.keys

pub returns-clause-holds : goal.returns-clause-holds
returns-clause-holds c =
    loop_whole c.args.self.now.lists (pos c.args.at.entity.0) c.args.at.item c.args.self.now.loops c.args.number _
    (to_z-of_z w64 c.args.number c.ranges.number) c.record.new.self c.in_ok-entity.ensures.file c.in_ok-entity.entity.0
    c.in_ok-entity.ensures.named.0 c.in_ok-entity.ensures.holds c.in_ok-note.ensures.holds c.in_ok-uses.ensures.holds

pub returns-clause-made : goal.returns-clause-made
returns-clause-made c =
    loop_made c.args.self.now.lists c.args.number _ (to_z-of_z w64 c.args.number c.ranges.number) c.in_ok-entity.entity c.in_ok-entity.ensures.named.0
    c.in_ok-entity.listed c.in_ok-entity.ensures.named.1 c.loop_uses.new.self.numbering.keys c.in_ok-uses.uses c.in_ok-uses.ensures.made
