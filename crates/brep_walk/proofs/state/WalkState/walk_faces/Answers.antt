use Rattle.std.proofs.Common.{◌≡◌, ◌∙◌, ◌++◌, [], rules, sym, pos, subst, slice_get, Some, take, flat_map, ℤ, Bool}
use mir.Syntax.{w64}
use mir.Val.{to_z, of_z}
use Rattle.solid_data.specs.Obligations.{after_each}
use Rattle.brep_walk.specs.Numbered.{face_tuples}
use Rattle.brep_walk.specs.Places.{loops, numbers, face_at, face_places}
use Rattle.brep_walk.specs.SolidOf.{face_by}
use Rattle.brep_walk.specs.Stands.{Stands}
use Rattle.brep_walk.proofs.Faults.{handed}
use Rattle.brep_walk.proofs.ItemSteps.{item_holds, item_fails, face_placed, face_failed}
use Rattle.brep_walk.proofs.WalkSteps.{keys_next, made_next, named_next, remains_at, fault_at}
use Rattle.brep_walk.proofs.state.WalkState.walk_faces.Goals as goal

pub faces-preserved : goal.faces-preserved
faces-preserved c =
    let f = c.args.self.now.lists in
    let g = c.faces.self.lists in
    let i = c.faces.invariant in
    let e = c.in_ok-made.ensures in
    let all = c.args.listed.now in
    let used = c.args.self.now.faces in
    let x = c.unwrap-number.result in
    let at : slice_get all c.faces.i ≡ Some x = sym c.item.ensures ∙ c.unwrap-number.ensures in
    let is : to_z w64 (of_z w64 x.0) ≡ x.0 = search rules in
    let same : (to_z w64 (of_z w64 x.0), x.1) ≡ x = λ j. (is j, x.1) in
    record {
      stands = subst (λ h. Stands h c.walk_face.new.self.lists c.walk_face.new.self.numbering) i.stands.file e.walks.stands;
      keys = keys_next f g i.stands.file face_tuples c.args.self.now.numbering.keys c.faces.self.numbering.keys c.walk_face.new.self.numbering.keys all
          c.faces.i x
          (to_z w64 (of_z w64 x.0), x.1) at same i.keys e.walks.keys;
      named = named_next (λ (item : ℤ × Bool). item.0) used c.faces.self.faces c.walk_face.new.self.faces all c.faces.i x _ at is i.named e.named;
      loops = subst (λ h. c.walk_face.new.self.loops ≡ flat_map (loops h) c.walk_face.new.self.faces) i.stands.file e.loops;
      others = e.others ∙ i.others;
      made = made_next f g i.stands.file face_by c.faces.self.numbering.keys c.walk_face.new.self.numbering.keys (face_tuples g (to_z w64 (of_z w64 x.0), x.1))
          e.walks.keys all c.faces.i x
          (to_z w64 (of_z w64 x.0), x.1) at same c.faces.faces c.in_ok-made.made c.push.new.self i.made e.made c.in_ok-push.ensures.ok;
      remains = remains_at (face_places f (pos c.args.no.0) used) all c.faces.i x (after_each (face_places f (pos c.args.no.0) used) [] all) at i.remains
          (face_placed f (pos c.args.no.0) used (take c.faces.i all) x
          (item_holds f g i.stands.file (pos c.args.no.0) c.faces.self.faces (used ++ numbers (take c.faces.i all)) all c.faces.i x _ at is i.named face_at
          e.holds));
    }

pub returns-in_err-made-clause-fault : goal.returns-in_err-made-clause-fault
returns-in_err-made-clause-fault c =
    let f = c.args.self.now.lists in
    let i = c.faces.invariant in
    let all = c.args.listed.now in
    let used = c.args.self.now.faces in
    let x = c.unwrap-number.result in
    let at : slice_get all c.faces.i ≡ Some x = sym c.item.ensures ∙ c.unwrap-number.ensures in
    let is : to_z w64 (of_z w64 x.0) ≡ x.0 = search rules in
    handed (after_each (face_places f (pos c.args.no.0) used) [] all) c.from_residual-in_err-made.result _
    (fault_at (face_places f (pos c.args.no.0) used) all c.faces.i x (after_each (face_places f (pos c.args.no.0) used) [] all) _ at i.remains
    (face_failed f (pos c.args.no.0) used (take c.faces.i all) x c.in_err-made.field-0.0
    (item_fails f c.faces.self.lists i.stands.file (pos c.args.no.0) c.faces.self.faces (used ++ numbers (take c.faces.i all)) all c.faces.i x _ at is i.named
    face_at c.in_err-made.field-0.0 c.in_err-made.ensures.fault)))
    c.from_residual-in_err-made.ensures.1
