use Rattle.std.proofs.Common.{◌≡◌, ◌∙◌, ap, refl, rules, flat_map, pos, true, false}
use Rattle.std.proofs.lemmas.Int.{to_z-of_z}
use mir.Syntax.{w64}
use mir.Val.{to_z, of_z}
use Rattle.brep_lists.specs.Record.{FaceItems}
use Rattle.brep_lists.specs.declared.entity_kind.EntityKind.TheVariants.{Face as face}
use Rattle.brep_walk.specs.Numbered.{face_tuples}
use Rattle.brep_walk.specs.Places.{told, loops, tuples}
use Rattle.brep_walk.proofs.ItemSteps.{no_face, named_face_twice, surface_named, surface_false, face_holds, loops_fail, named_more, face_made}
use Rattle.brep_walk.proofs.WalkSteps.{walks_so}
use Rattle.brep_walk.proofs.state.WalkState.walk_face.Goals as goal

pub returns-in_err-entity-clause-fault : goal.returns-in_err-entity-clause-fault
returns-in_err-entity-clause-fault c =
    no_face c.args.self.now.lists (pos c.args.at.entity.0) c.args.at.item c.args.self.now.faces c.args.number _ (to_z-of_z w64 c.args.number c.ranges.number)
    c.from_residual.result _
    c.in_err-entity.ensures.fault
    c.from_residual.ensures.1

pub returns-in_err-note-clause-fault : goal.returns-in_err-note-clause-fault
returns-in_err-note-clause-fault c =
    named_face_twice c.args.self.now.lists (pos c.args.at.entity.0) c.args.at.item c.args.self.now.faces c.args.number _
    (to_z-of_z w64 c.args.number c.ranges.number) c.from_residual-in_err-note.result _
    c.in_ok-entity.ensures.holds
    c.in_err-note.ensures.fault c.from_residual-in_err-note.ensures.1

pub returns-then-not-names_geometry-clause-fault : goal.returns-then-not-names_geometry-clause-fault
returns-then-not-names_geometry-clause-fault c =
    let number : to_z w64 (of_z w64 c.surface.result) ≡ c.in_ok-entity.listed.surface = search rules in
    surface_false c.args.self.now.lists (pos c.args.at.entity.0) c.args.at.item c.args.self.now.faces c.args.number _
    (to_z-of_z w64 c.args.number c.ranges.number) c.in_ok-entity.entity.0 c.in_ok-entity.ensures.named.0 c.in_ok-entity.listed
    c.in_ok-entity.ensures.named.1 c.file.result.now (c.file.ensures ∙ c.in_ok-entity.ensures.file) _ number c.fails.result
    c.in_ok-entity.ensures.holds c.in_ok-note.ensures.holds
    (λ h. let k : false ≡ true = c.if-not-names_geometry.ensures.1 h in cc) c.fails.ensures

pub returns-in_err-loops-clause-fault : goal.returns-in_err-loops-clause-fault
returns-in_err-loops-clause-fault c =
    let number : to_z w64 (of_z w64 c.surface.result) ≡ c.in_ok-entity.listed.surface = search rules in
    loops_fail c.args.self.now.lists (pos c.args.at.entity.0) c.args.at.item c.args.self.now.faces c.args.number _
    (to_z-of_z w64 c.args.number c.ranges.number) c.in_ok-entity.entity.0 c.in_ok-entity.ensures.named.0 c.in_ok-entity.listed
    c.in_ok-entity.ensures.named.1 c.record.new.self c.in_ok-entity.ensures.file c.args.self.now.loops c.requires.loops
    c.from_residual-in_err-loops.result _ c.in_ok-entity.ensures.holds c.in_ok-note.ensures.holds
    (surface_named c.args.self.now.lists (pos c.args.at.entity.0) c.args.at.item c.args.self.now.faces c.args.number _
    (to_z-of_z w64 c.args.number c.ranges.number) c.in_ok-entity.entity.0 c.in_ok-entity.ensures.named.0 c.in_ok-entity.listed
    c.in_ok-entity.ensures.named.1 c.file.result.now (c.file.ensures ∙ c.in_ok-entity.ensures.file) _ number (c.if-not-names_geometry.ensures.0 refl))
    c.in_err-loops.ensures.fault c.from_residual-in_err-loops.ensures.1

pub returns-clause-holds : goal.returns-clause-holds
returns-clause-holds c =
    let number : to_z w64 (of_z w64 c.surface.result) ≡ c.in_ok-entity.listed.surface = search rules in
    face_holds c.args.self.now.lists (pos c.args.at.entity.0) c.args.at.item c.args.self.now.faces c.args.number _
    (to_z-of_z w64 c.args.number c.ranges.number) c.in_ok-entity.entity.0 c.in_ok-entity.ensures.named.0 c.in_ok-entity.listed
    c.in_ok-entity.ensures.named.1 c.record.new.self c.in_ok-entity.ensures.file c.args.self.now.loops c.requires.loops
    c.in_ok-entity.ensures.holds c.in_ok-note.ensures.holds
    (surface_named c.args.self.now.lists (pos c.args.at.entity.0) c.args.at.item c.args.self.now.faces c.args.number _
    (to_z-of_z w64 c.args.number c.ranges.number) c.in_ok-entity.entity.0 c.in_ok-entity.ensures.named.0 c.in_ok-entity.listed
    c.in_ok-entity.ensures.named.1 c.file.result.now (c.file.ensures ∙ c.in_ok-entity.ensures.file) _ number (c.if-not-names_geometry.ensures.0 refl))
    c.in_ok-loops.ensures.holds

pub returns-clause-walks : goal.returns-clause-walks
returns-clause-walks c =
    let f = c.args.self.now.lists in
    let e = c.in_ok-loops.ensures in
    walks_so c.args.self.now c.walk_loops.new.self _ c.record.new.self c.in_ok-entity.ensures.file
    (λ g. flat_map (tuples g) c.in_ok-entity.listed.loops) (face_tuples f (c.args.number, c.args.flag))
    (ap (λ (items : FaceItems). flat_map (tuples f) items.loops)
    (c.in_ok-entity.ensures.named.1 ∙ ap (told face f) (to_z-of_z w64 c.args.number c.ranges.number)))
    e.walks.file e.walks.stands e.walks.keys

pub returns-clause-loops : goal.returns-clause-loops
returns-clause-loops c =
    let e = c.in_ok-loops.ensures in
    named_more (loops c.args.self.now.lists) c.args.self.now.loops c.walk_loops.new.self.loops c.in_ok-entity.listed.loops c.args.self.now.faces
    c.walk_loops.new.self.faces _ e.named (ap (λ (items : FaceItems). items.loops) c.in_ok-entity.ensures.named.1) c.requires.loops
    (e.others.0 ∙ c.in_ok-note.ensures.noted)

pub returns-clause-made : goal.returns-clause-made
returns-clause-made c =
    face_made c.args.self.now.lists c.record.new.self c.in_ok-entity.ensures.file c.args.number _ (to_z-of_z w64 c.args.number c.ranges.number) c.args.flag
    c.in_ok-entity.entity c.in_ok-entity.ensures.named.0 c.in_ok-entity.listed c.in_ok-entity.ensures.named.1 c.walk_loops.new.self.numbering.keys
    c.in_ok-loops.loops c.in_ok-loops.ensures.made
