use Rattle.std.proofs.Common.{◌∙◌, ap, flat_map, pos}
use Rattle.std.proofs.lemmas.Int.{to_z-of_z}
use mir.Syntax.{w64}
use Rattle.brep_walk.specs.Numbered.{face_tuples, shell_tuples}
use Rattle.brep_walk.specs.Places.{faces, numbers}
use Rattle.brep_walk.proofs.ItemSteps.{no_shell, named_shell_twice, faces_fail, shell_holds, named_more, shell_made}
use Rattle.brep_walk.proofs.WalkSteps.{walks_so}
use Rattle.brep_walk.proofs.state.WalkState.walk_shell.Goals as goal

pub returns-in_err-entity-clause-fault : goal.returns-in_err-entity-clause-fault
returns-in_err-entity-clause-fault c =
    no_shell c.args.self.now.lists (pos c.args.at.entity.0) c.args.at.item c.args.self.now.shells c.args.number _ (to_z-of_z w64 c.args.number c.ranges.number)
    c.from_residual.result _
    c.in_err-entity.ensures.fault
    c.from_residual.ensures.1

pub returns-in_err-note-clause-fault : goal.returns-in_err-note-clause-fault
returns-in_err-note-clause-fault c =
    named_shell_twice c.args.self.now.lists (pos c.args.at.entity.0) c.args.at.item c.args.self.now.shells c.args.number _
    (to_z-of_z w64 c.args.number c.ranges.number) c.from_residual-in_err-note.result _
    c.in_ok-entity.ensures.holds
    c.in_err-note.ensures.fault c.from_residual-in_err-note.ensures.1

pub returns-in_err-faces-clause-fault : goal.returns-in_err-faces-clause-fault
returns-in_err-faces-clause-fault c =
    faces_fail c.args.self.now.lists (pos c.args.at.entity.0) c.args.at.item c.args.self.now.shells c.args.number _
    (to_z-of_z w64 c.args.number c.ranges.number) c.from_residual-in_err-faces.result _ c.in_ok-entity.entity.0 c.in_ok-entity.ensures.named.0
    c.in_ok-entity.listed c.in_ok-entity.ensures.named.1 c.record.new.self c.in_ok-entity.ensures.file c.args.self.now.faces c.requires.faces
    c.in_ok-entity.ensures.holds c.in_ok-note.ensures.holds c.in_err-faces.ensures.fault c.from_residual-in_err-faces.ensures.1

pub returns-clause-walks : goal.returns-clause-walks
returns-clause-walks c =
    let f = c.args.self.now.lists in
    let e = c.in_ok-faces.ensures in
    walks_so c.args.self.now c.walk_faces.new.self _ c.record.new.self c.in_ok-entity.ensures.file
    (λ g. flat_map (face_tuples g) c.in_ok-entity.listed) (shell_tuples f (c.args.number, c.args.flag))
    (ap (flat_map (face_tuples f)) (c.in_ok-entity.ensures.named.1 ∙ ap (faces f) (to_z-of_z w64 c.args.number c.ranges.number)))
    e.walks.file e.walks.stands e.walks.keys

pub returns-clause-holds : goal.returns-clause-holds
returns-clause-holds c =
    shell_holds c.args.self.now.lists (pos c.args.at.entity.0) c.args.at.item c.args.self.now.shells c.args.number _
    (to_z-of_z w64 c.args.number c.ranges.number) c.in_ok-entity.entity.0 c.in_ok-entity.ensures.named.0
    c.in_ok-entity.listed c.in_ok-entity.ensures.named.1 c.record.new.self c.in_ok-entity.ensures.file c.args.self.now.faces c.requires.faces
    c.in_ok-entity.ensures.holds c.in_ok-note.ensures.holds c.in_ok-faces.ensures.holds

pub returns-clause-faces : goal.returns-clause-faces
returns-clause-faces c =
    let f = c.args.self.now.lists in
    let e = c.in_ok-faces.ensures in
    named_more (λ s. numbers (faces f s)) c.args.self.now.faces c.walk_faces.new.self.faces (numbers c.in_ok-entity.listed) c.args.self.now.shells
    c.walk_faces.new.self.shells _ e.named (ap numbers c.in_ok-entity.ensures.named.1) c.requires.faces (e.others ∙ c.in_ok-note.ensures.noted)

pub returns-clause-made : goal.returns-clause-made
returns-clause-made c =
    shell_made c.args.self.now.lists c.record.new.self c.in_ok-entity.ensures.file c.args.number _ (to_z-of_z w64 c.args.number c.ranges.number) c.args.flag
    c.in_ok-entity.entity c.in_ok-entity.ensures.named.0 c.in_ok-entity.listed c.in_ok-entity.ensures.named.1 c.walk_faces.new.self.numbering.keys
    c.in_ok-faces.faces c.in_ok-faces.ensures.made
