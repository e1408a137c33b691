use Rattle.std.proofs.Common.{arith, sym, ◌∙◌, ◌≡◌, true, false}
use Rattle.cert_state.proofs.Rings.{begins_shorter}
use Rattle.open_certificate.proofs.PathWalks.{walked_none, walked_step, walked_stop, walked_whole}
use Rattle.open_certificate.proofs.fitting.path_end.Goals as goal

pub turns-init : goal.turns-init
turns-init c = record { room = omega arith; walked = λ pairs rs hm h. walked_none c.args.rows.now pairs c.args.first c.args.others.now rs h }

pub returns-then-not-turns_to : goal.returns-then-not-turns_to
returns-then-not-turns_to c = λ pairs rs hm h.
    walked_stop c.args.rows.now pairs c.args.first c.turns.last c.in-Some.next c.turns.rest.now c.in-Some.after.now rs c.turns.count c.in-Some.ensures
    (λ turns. let e : false ≡ true = sym c.if-not-turns_to.true ∙ (c.turns_to.ensures pairs hm).1 turns in cc) (c.turns.invariant.walked pairs rs hm h)

pub turns-smaller : goal.turns-smaller
turns-smaller c = begins_shorter c.turns.rest.now c.in-Some.after.now c.in-Some.next c.in-Some.ensures

pub turns-preserved : goal.turns-preserved
turns-preserved c = record {
  room = omega (arith, c.turns.invariant.room, begins_shorter c.turns.rest.now c.in-Some.after.now c.in-Some.next c.in-Some.ensures);
  walked = λ pairs rs hm h.
      let on = (c.turns_to.ensures pairs hm).0 c.if-not-turns_to.false in
      walked_step c.args.rows.now pairs c.args.first c.turns.last c.in-Some.next c.turns.rest.now c.in-Some.after.now rs c.turns.count c.in-Some.ensures on
      (c.turns.invariant.walked pairs rs hm h);
}

pub returns : goal.returns
returns c = λ pairs rs hm h. walked_whole c.args.rows.now pairs c.args.first c.turns.last c.turns.rest.now rs c.turns.count c.in_default.ensures
    (c.turns.invariant.walked pairs rs hm h)
