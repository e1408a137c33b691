use Rattle.std.proofs.Common.{◌≡◌, ◌∙◌, ◌∷◌, [], rules, sym, pos, subst, slice_get, Some, take, map, flat_map, length, ◌≤◌, arith, ℤ, Bool}
use mir.Syntax.{w64}
use mir.Val.{to_z, of_z}
use Rattle.solid_data.specs.Obligations.{after_each}
use Rattle.brep_walk.specs.Numbered.{IsMadeBy, shell_tuples}
use Rattle.brep_walk.specs.Places.{faces, loops, numbers, shell_at, shell_places}
use Rattle.brep_walk.specs.SolidOf.{shell_by}
use Rattle.brep_walk.specs.Stands.{Stands}
use Rattle.brep_walk.proofs.Faults.{handed}
use Rattle.brep_walk.proofs.ItemSteps.{item_holds, item_fails, shell_placed, shell_failed}
use Rattle.brep_walk.proofs.WalkSteps.{keys_next, made_next, named_next, remains_at, fault_at, take_past}
use Rattle.brep_walk.proofs.state.WalkState.walk_shells.Goals as goal

pub shells-preserved : goal.shells-preserved
shells-preserved c =
    let f = c.args.self.now.lists in
    let g = c.shells.self.lists in
    let i = c.shells.invariant in
    let e = c.in_ok-made.ensures in
    let all = c.args.listed.now.outer ∷ c.args.listed.now.voids in
    let x = c.unwrap-number.result in
    let at : slice_get all c.shells.i ≡ Some x = sym c.item.ensures ∙ c.unwrap-number.ensures in
    let is : to_z w64 (of_z w64 x.0) ≡ x.0 = search rules in
    let same : (to_z w64 (of_z w64 x.0), x.1) ≡ x = λ j. (is j, x.1) in
    record {
      stands = subst (λ h. Stands h c.walk_shell.new.self.lists c.walk_shell.new.self.numbering) i.stands.file e.walks.stands;
      keys = keys_next f g i.stands.file shell_tuples c.args.self.now.numbering.keys c.shells.self.numbering.keys c.walk_shell.new.self.numbering.keys all
          c.shells.i x
          (to_z w64 (of_z w64 x.0), x.1) at same i.keys e.walks.keys;
      named = named_next (λ (item : ℤ × Bool). item.0) [] c.shells.self.shells c.walk_shell.new.self.shells all c.shells.i x _ at is i.named e.named;
      faces = subst (λ h. c.walk_shell.new.self.faces ≡ flat_map (λ shell. numbers (faces h shell)) c.walk_shell.new.self.shells) i.stands.file e.faces;
      loops = subst (λ h. c.walk_shell.new.self.loops ≡ flat_map (loops h) c.walk_shell.new.self.faces) i.stands.file e.loops;
      made = made_next f g i.stands.file shell_by c.shells.self.numbering.keys c.walk_shell.new.self.numbering.keys
          (shell_tuples g (to_z w64 (of_z w64 x.0), x.1)) e.walks.keys all c.shells.i x
          (to_z w64 (of_z w64 x.0), x.1) at same c.shells.shells c.in_ok-made.made c.push.new.self i.made e.made c.in_ok-push.ensures.ok;
      remains = remains_at (shell_places f (pos c.args.no.0)) all c.shells.i x (after_each (shell_places f (pos c.args.no.0)) [] all) at i.remains
          (shell_placed f (pos c.args.no.0) (take c.shells.i all) x
          (item_holds f g i.stands.file (pos c.args.no.0) c.shells.self.shells (numbers (take c.shells.i all)) all c.shells.i x _ at is i.named shell_at
          e.holds));
    }

pub returns-in_err-made-clause-fault : goal.returns-in_err-made-clause-fault
returns-in_err-made-clause-fault c =
    let f = c.args.self.now.lists in
    let i = c.shells.invariant in
    let all = c.args.listed.now.outer ∷ c.args.listed.now.voids in
    let x = c.unwrap-number.result in
    let at : slice_get all c.shells.i ≡ Some x = sym c.item.ensures ∙ c.unwrap-number.ensures in
    let is : to_z w64 (of_z w64 x.0) ≡ x.0 = search rules in
    handed (after_each (shell_places f (pos c.args.no.0)) [] all) c.from_residual.result _
    (fault_at (shell_places f (pos c.args.no.0)) all c.shells.i x (after_each (shell_places f (pos c.args.no.0)) [] all) _ at i.remains
    (shell_failed f (pos c.args.no.0) (take c.shells.i all) x c.in_err-made.field-0.0
    (item_fails f c.shells.self.lists i.stands.file (pos c.args.no.0) c.shells.self.shells (numbers (take c.shells.i all)) all c.shells.i x _ at is i.named
    shell_at c.in_err-made.field-0.0 c.in_err-made.ensures.fault)))
    c.from_residual.ensures.1

pub walk_shell-requires-clause-faces : goal.walk_shell-requires-clause-faces
walk_shell-requires-clause-faces c =
    subst (λ h. c.shells.self.faces ≡ flat_map (λ shell. numbers (faces h shell)) c.shells.self.shells) (sym c.shells.invariant.stands.file)
    c.shells.invariant.faces

pub returns-clause-made : goal.returns-clause-made
returns-clause-made c =
    let f = c.args.self.now.lists in
    let all = c.args.listed.now.outer ∷ c.args.listed.now.voids in
    let past : length all ≤ c.shells.i = omega (arith, c.len-i-end.ensures, c.shells-test.false) in
    subst (λ xs. IsMadeBy c.shells.self.numbering.keys (λ k. map (shell_by f k) xs) c.shells.shells) (take_past all c.shells.i past) c.shells.invariant.made
