use Rattle.std.proofs.Common.{◌≡◌, ◌∙◌, ◌+◌, ◌∷◌, ◌++◌, [], ap, sym, pos, arith, subst, length, length-append}
use Rattle.solid_data.specs.Obligations.{AllHold, after_each}
use Rattle.brep_walk.specs.Places.{tuple_at, tuple_places}
use Rattle.brep_walk.specs.SolidOf.{use_by}
use Rattle.brep_walk.specs.Stands.{Stands}
use Rattle.brep_walk.specs.Walked.{IsFault}
use Rattle.brep_walk.proofs.Faults.{handed}
use Rattle.brep_walk.proofs.WalkSteps.{tuple_in_place, tuple_fault, tuple_known, keys_step, keys_grow, made_last, left_step, remains_next, fault_next}
use Rattle.brep_walk.proofs.state.WalkState.walk_tuples.Goals as goal

pub tuples-preserved : goal.tuples-preserved
tuples-preserved c =
    let f = c.args.self.now.lists in
    let i = c.tuples.invariant in
    let e = c.in_ok-made.ensures in
    let place : c.tuples.item + 1 ≡ length c.tuples.yielded + 1 = ap (λ n. n + 1) i.count in
    record {
      count = omega (arith, i.count, length-append c.tuples.yielded (c.in-Some.tuple ∷ []));
      left = left_step c.tuples.yielded c.tuples.tuple-iterator c.next.new.self c.args.listed.now c.in-Some.tuple i.left c.in-Some.ensures.steps;
      stands = subst (λ g. Stands g c.walk_tuple.new.self.lists c.walk_tuple.new.self.numbering) i.stands.file e.walks.stands;
      keys = keys_step f c.tuples.self.lists i.stands.file c.args.self.now.numbering.keys c.tuples.self.numbering.keys c.walk_tuple.new.self.numbering.keys
          (c.in-Some.tuple ∷ []) c.next.new.self
          c.tuples.tuple-iterator c.args.listed.now c.in-Some.ensures.steps i.keys e.walks.keys;
      others = (e.others.0 ∙ i.others.0, e.others.1 ∙ i.others.1, e.others.2 ∙ i.others.2);
      made = made_last use_by c.tuples.self.numbering.keys c.walk_tuple.new.self.numbering.keys
          (keys_grow c.tuples.self.lists c.tuples.self.numbering.keys c.walk_tuple.new.self.numbering.keys (c.in-Some.tuple ∷ []) e.walks.keys)
          c.tuples.yielded c.in-Some.tuple c.tuples.uses c.in_ok-made.made c.push.new.self i.made e.made c.in_ok-push.ensures.ok;
      remains = remains_next (tuple_places f (pos c.args.no.0)) c.tuples.yielded c.tuples.tuple-iterator c.next.new.self c.in-Some.tuple
          (after_each (tuple_places f (pos c.args.no.0)) [] c.args.listed.now) c.in-Some.ensures.steps i.remains
          (tuple_in_place f (pos c.args.no.0) c.tuples.yielded c.in-Some.tuple (c.tuples.item + 1) place
          (subst (λ g. AllHold (tuple_at g (pos c.args.no.0) (c.tuples.item + 1) c.in-Some.tuple)) i.stands.file e.holds));
    }

pub returns-in_err-made-clause-fault : goal.returns-in_err-made-clause-fault
returns-in_err-made-clause-fault c =
    let f = c.args.self.now.lists in
    let i = c.tuples.invariant in
    let place : c.tuples.item + 1 ≡ length c.tuples.yielded + 1 = ap (λ n. n + 1) i.count in
    handed (after_each (tuple_places f (pos c.args.no.0)) [] c.args.listed.now) c.from_residual.result _
    (fault_next (tuple_places f (pos c.args.no.0)) c.tuples.yielded c.tuples.tuple-iterator c.next.new.self c.in-Some.tuple
    (after_each (tuple_places f (pos c.args.no.0)) [] c.args.listed.now) _ c.in-Some.ensures.steps i.remains
    (tuple_fault f (pos c.args.no.0) c.tuples.yielded c.in-Some.tuple (c.tuples.item + 1) _ place
    (subst (λ g. IsFault (tuple_at g (pos c.args.no.0) (c.tuples.item + 1) c.in-Some.tuple) c.in_err-made.field-0.0) i.stands.file
    c.in_err-made.ensures.fault)))
    c.from_residual.ensures.1

pub walk_tuple-requires-clause-known : goal.walk_tuple-requires-clause-known
walk_tuple-requires-clause-known c is_known =
    let i = c.tuples.invariant in
    let place : c.tuples.item + 1 ≡ length c.tuples.yielded + 1 = ap (λ n. n + 1) i.count in
    subst (λ g. AllHold (tuple_at g (pos c.args.no.0) (c.tuples.item + 1) c.in-Some.tuple)) (sym i.stands.file)
    (tuple_known c.args.self.now.lists (pos c.args.no.0) c.args.listed.now c.tuples.yielded c.next.new.self c.in-Some.tuple (c.tuples.item + 1)
    (ap (λ xs. c.tuples.yielded ++ xs) (sym c.in-Some.ensures.steps) ∙ i.left) place (c.requires.known is_known))
