use Rattle.std.proofs.Common.{◌≡◌, ◌∙◌, [], rules, sym, pos, subst, slice_get, Some}
use mir.Syntax.{w64}
use mir.Val.{to_z, of_z}
use Rattle.solid_data.specs.Obligations.{after_each}
use Rattle.brep_walk.specs.Places.{tuples, loop_places}
use Rattle.brep_walk.specs.SolidOf.{loop_by}
use Rattle.brep_walk.specs.Stands.{Stands}
use Rattle.brep_walk.proofs.Faults.{handed}
use Rattle.brep_walk.proofs.LoopSteps.{loop_holds, loop_fails, loop_named}
use Rattle.brep_walk.proofs.WalkSteps.{keys_next, made_next, remains_at, fault_at}
use Rattle.brep_walk.proofs.state.WalkState.walk_loops.Goals as goal

pub loops-preserved : goal.loops-preserved
loops-preserved c =
    let f = c.args.self.now.lists in
    let g = c.loops.self.lists in
    let i = c.loops.invariant in
    let e = c.in_ok-made.ensures in
    let all = c.args.listed.now.loops in
    let z = c.unwrap-number.result in
    let at : slice_get all c.loops.i ≡ Some z = sym c.item.ensures ∙ c.unwrap-number.ensures in
    let is : to_z w64 (of_z w64 z) ≡ z = search rules in
    record {
      stands = subst (λ h. Stands h c.walk_loop.new.self.lists c.walk_loop.new.self.numbering) i.stands.file e.walks.stands;
      keys = keys_next f g i.stands.file tuples c.args.self.now.numbering.keys c.loops.self.numbering.keys c.walk_loop.new.self.numbering.keys all c.loops.i z
          (to_z w64 (of_z w64 z)) at is i.keys e.walks.keys;
      named = loop_named f g i.stands.file (pos c.args.no.0) c.args.self.now.loops c.loops.self.loops all c.loops.i z _ at is i.named
          c.walk_loop.new.self.loops e.named;
      others = (e.others.0 ∙ i.others.0, e.others.1 ∙ i.others.1);
      made = made_next f g i.stands.file loop_by c.loops.self.numbering.keys c.walk_loop.new.self.numbering.keys (tuples g (to_z w64 (of_z w64 z)))
          e.walks.keys all c.loops.i z (to_z w64 (of_z w64 z)) at is
          c.loops.loops c.in_ok-made.made c.push.new.self i.made e.made c.in_ok-push.ensures.ok;
      remains = remains_at (loop_places f (pos c.args.no.0) c.args.self.now.loops) all c.loops.i z
          (after_each (loop_places f (pos c.args.no.0) c.args.self.now.loops) [] all) at i.remains
          (loop_holds f g i.stands.file (pos c.args.no.0) c.args.self.now.loops c.loops.self.loops all c.loops.i z _ at is i.named e.holds);
    }

pub returns-in_err-made-clause-fault : goal.returns-in_err-made-clause-fault
returns-in_err-made-clause-fault c =
    let f = c.args.self.now.lists in
    let i = c.loops.invariant in
    let all = c.args.listed.now.loops in
    let z = c.unwrap-number.result in
    let at : slice_get all c.loops.i ≡ Some z = sym c.item.ensures ∙ c.unwrap-number.ensures in
    let is : to_z w64 (of_z w64 z) ≡ z = search rules in
    handed (after_each (loop_places f (pos c.args.no.0) c.args.self.now.loops) [] all) c.from_residual-in_err-made.result _
    (fault_at (loop_places f (pos c.args.no.0) c.args.self.now.loops) all c.loops.i z
    (after_each (loop_places f (pos c.args.no.0) c.args.self.now.loops) [] all) _ at i.remains
    (loop_fails f c.loops.self.lists i.stands.file (pos c.args.no.0) c.args.self.now.loops c.loops.self.loops all c.loops.i z _ at is i.named
    c.in_err-made.field-0.0 c.in_err-made.ensures.fault))
    c.from_residual-in_err-made.ensures.1
