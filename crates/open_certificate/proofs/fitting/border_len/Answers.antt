use Rattle.std.proofs.Common.{arith, sym, ◌∙◌, ◌≡◌, true, false}
use Rattle.cert_state.proofs.Rings.{begins_shorter}
use Rattle.open_certificate.proofs.BorderWalks.{walked_none, walked_step, walked_stop, walked_whole, walked_broken}
use Rattle.open_certificate.proofs.fitting.border_len.Goals as goal

pub returns-then-not-is_marked : goal.returns-then-not-is_marked
returns-then-not-is_marked c = λ alone rs hr h r. let e : false ≡ true = sym c.if-not-is_marked.true ∙ c.is_marked.ensures.1 ((hr c.args.first).0 r.0.0) in cc

pub rows-init : goal.rows-init
rows-init c = record {
  room = omega arith;
  walked = λ alone rs hr h. walked_none c.args.rows.now alone c.args.first c.args.others.now rs h
      ((hr c.args.first).1 (c.is_marked.ensures.0 c.if-not-is_marked.false));
}

pub returns-then-not-borders_on : goal.returns-then-not-borders_on
returns-then-not-borders_on c = λ alone rs hr h.
    walked_stop c.args.rows.now alone c.args.first c.rows.last c.in-Some.next c.rows.rest.now c.in-Some.after.now rs c.rows.count c.in-Some.ensures
    (λ above marked goes. let e : false ≡ true = sym c.if-not-borders_on.true ∙ c.borders_on.ensures.1 (above, (hr c.in-Some.next).0 marked, goes) in cc)
    (c.rows.invariant.walked alone rs hr h)

pub rows-smaller : goal.rows-smaller
rows-smaller c = begins_shorter c.rows.rest.now c.in-Some.after.now c.in-Some.next c.in-Some.ensures

pub rows-preserved : goal.rows-preserved
rows-preserved c = record {
  room = omega (arith, c.rows.invariant.room, begins_shorter c.rows.rest.now c.in-Some.after.now c.in-Some.next c.in-Some.ensures);
  walked = λ alone rs hr h.
      let on = c.borders_on.ensures.0 c.if-not-borders_on.false in
      walked_step c.args.rows.now alone c.args.first c.rows.last c.in-Some.next c.rows.rest.now c.in-Some.after.now rs c.rows.count c.in-Some.ensures on.0
      ((hr c.in-Some.next).1 on.1) on.2 (c.rows.invariant.walked alone rs hr h);
}

pub returns-then-goes_on_to : goal.returns-then-goes_on_to
returns-then-goes_on_to c = λ alone rs hr h.
    walked_whole c.args.rows.now alone c.args.first c.rows.last c.rows.rest.now rs c.rows.count c.in_default.ensures
    (c.goes_on_to.ensures.0 c.if-goes_on_to.true) (c.rows.invariant.walked alone rs hr h)

pub returns-else-goes_on_to : goal.returns-else-goes_on_to
returns-else-goes_on_to c = λ alone rs hr h.
    walked_broken c.args.rows.now alone c.args.first c.rows.last c.rows.rest.now rs c.rows.count c.in_default.ensures
    (λ goes. let e : false ≡ true = sym c.if-goes_on_to.false ∙ c.goes_on_to.ensures.1 goes in cc) (c.rows.invariant.walked alone rs hr h)
