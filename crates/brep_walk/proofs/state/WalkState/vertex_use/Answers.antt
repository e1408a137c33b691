use Rattle.std.proofs.Common.{◌≡◌, ◌∙◌, ap, pos, true, rules}
use mir.Syntax.{w64}
use mir.Val.{to_z, of_z}
use Rattle.solid_data.specs.Obligations.{AllHold}
use Rattle.brep_walk.specs.Places.{used_places}
use Rattle.brep_walk.specs.SolidOf.{vertex_key}
use Rattle.brep_walk.specs.Walked.{IsFault}
use Rattle.brep_walk.specs.declared.fault.WalkFault.TheVariants.{NoMemory}
use Rattle.brep_walk.proofs.Faults.{handed}
use Rattle.brep_walk.proofs.KnownEdges.{vertex_walks}
use Rattle.brep_walk.proofs.Used.{vertex_made, vertex_moved}
use Rattle.brep_walk.proofs.state.WalkState.vertex_use.Goals as goal

pub returns-clause-made : goal.returns-clause-made
returns-clause-made c later more =
    let a : to_z w64 (of_z w64 c.list.result) ≡ c.args.tuple.now.list = search rules in
    let b : to_z w64 (of_z w64 c.index.result) ≡ c.args.tuple.now.index = search rules in
    vertex_made c.args.tuple.now c.requires.vertex _ c.vertex-2.new.self.keys later c.in_ok-key.key c.in_ok-vertex.vertex
    (c.in_ok-key.ensures.vertex ∙ (λ j. vertex_key (a j) (b j)))
    (ap (λ n. n.keys.vertices) c.in_ok-vertex.ensures.keys) c.in_ok-vertex.ensures.id more

pub returns-clause-walks : goal.returns-clause-walks
returns-clause-walks c =
    let a : to_z w64 (of_z w64 c.list.result) ≡ c.args.tuple.now.list = search rules in
    let b : to_z w64 (of_z w64 c.index.result) ≡ c.args.tuple.now.index = search rules in
    vertex_walks c.args.self.now _ _ c.args.tuple.now c.requires.vertex c.in_ok-key.key (c.in_ok-key.ensures.vertex ∙ (λ j. vertex_key (a j) (b j)))
    c.requires.stands c.in_ok-key.ensures.file c.in_ok-vertex.ensures.keys

pub returns-clause-holds : goal.returns-clause-holds
returns-clause-holds c =
    let a : to_z w64 (of_z w64 c.list.result) ≡ c.args.tuple.now.list = search rules in
    let b : to_z w64 (of_z w64 c.index.result) ≡ c.args.tuple.now.index = search rules in
    vertex_moved AllHold c.args.self.now.lists (pos c.args.at.entity.0) c.args.at.item c.args.tuple.now.list c.args.tuple.now.index _ _ a b
    c.in_ok-key.ensures.holds

pub returns-in_err-key-clause-fault : goal.returns-in_err-key-clause-fault
returns-in_err-key-clause-fault c =
    let a : to_z w64 (of_z w64 c.list.result) ≡ c.args.tuple.now.list = search rules in
    let b : to_z w64 (of_z w64 c.index.result) ≡ c.args.tuple.now.index = search rules in
    handed (used_places c.args.self.now.lists (pos c.args.at.entity.0) c.args.at.item c.args.tuple.now.list c.args.tuple.now.index true)
    c.from_residual.result _
    (vertex_moved (λ os. IsFault os c.in_err-key.field-0.0) c.args.self.now.lists (pos c.args.at.entity.0) c.args.at.item c.args.tuple.now.list
    c.args.tuple.now.index _ _ a b c.in_err-key.ensures.fault)
    c.from_residual.ensures.1

pub returns-in_err-vertex-clause-fault : goal.returns-in_err-vertex-clause-fault
returns-in_err-vertex-clause-fault c =
    handed (used_places c.args.self.now.lists (pos c.args.at.entity.0) c.args.at.item c.args.tuple.now.list c.args.tuple.now.index true)
    c.from_residual-in_err-vertex.result NoMemory tt c.from_residual-in_err-vertex.ensures.1
