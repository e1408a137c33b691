use Rattle.std.proofs.Common.{arith, sym, [], ◌∷◌, ◌∙◌, ◌≡◌, true, false}
use Rattle.cert_state.proofs.Rings.{walked_none, walked_step, walked_stop, walked_whole, walked_broken, walked_more, begins_shorter, before_cons, at_end}
use Rattle.cert_state.proofs.ring.ring_len.Goals as goal

pub turns-init : goal.turns-init
turns-init c = record {
  room = omega arith;
  read = λ rs stop h. (rs, h);
  walked = λ pairs rs stop hm h. walked_none c.args.rows.now pairs c.args.first
      c.args.others.now rs stop h;
}

pub returns-then-not-goes_on-clause-ring : goal.returns-then-not-goes_on-clause-ring
returns-then-not-goes_on-clause-ring c = λ pairs rs stop hm h.
    walked_stop c.args.rows.now pairs c.args.first c.turns.last c.in-Some.next c.turns.rest.now c.in-Some.after.now rs stop c.turns.count c.in-Some.ensures
    (λ above turns. let e : false ≡ true = sym c.if-not-goes_on.true ∙ (c.goes_on.ensures pairs hm).1 (above, turns) in cc)
    (c.turns.invariant.walked pairs rs stop hm h)

pub turns-smaller : goal.turns-smaller
turns-smaller c = begins_shorter c.turns.rest.now c.in-Some.after.now c.in-Some.next c.in-Some.ensures

pub turns-preserved : goal.turns-preserved
turns-preserved c = record {
  room = omega (arith, c.turns.invariant.room, begins_shorter c.turns.rest.now c.in-Some.after.now c.in-Some.next c.in-Some.ensures);
  read = λ rs stop h.
      c.turns.invariant.read (c.in-Some.next ∷ rs) stop (before_cons c.turns.rest.now c.in-Some.after.now rs stop c.in-Some.next c.in-Some.ensures h);
  walked = λ pairs rs stop hm h.
      let on = (c.goes_on.ensures pairs hm).0 c.if-not-goes_on.false in
      walked_step c.args.rows.now pairs c.args.first c.turns.last c.in-Some.next c.turns.rest.now c.in-Some.after.now rs stop c.turns.count c.in-Some.ensures
      on.0 on.1 (c.turns.invariant.walked pairs rs stop hm h);
}

pub returns-then-not-ends_numbers-clause-ring : goal.returns-then-not-ends_numbers-clause-ring
returns-then-not-ends_numbers-clause-ring c = λ pairs rs stop hm h ring.
    walked_more c.args.rows.now pairs c.args.first c.turns.last c.turns.rest.now rs stop c.turns.count
    (λ ends. let e : false ≡ true = sym c.if-not-ends_numbers.true ∙ c.ends_numbers.ensures.1 ends in cc) c.in_default.ensures
    (c.turns.invariant.walked pairs rs stop hm h)

pub returns-then-turns_to-clause-numbers : goal.returns-then-turns_to-clause-numbers
returns-then-turns_to-clause-numbers c =
    c.turns.invariant.read [] c.turns.rest.now (at_end c.turns.rest.now (c.ends_numbers.ensures.0 c.if-not-ends_numbers.false))

pub returns-then-turns_to-clause-ring : goal.returns-then-turns_to-clause-ring
returns-then-turns_to-clause-ring c = λ pairs rs stop hm h.
    walked_whole c.args.rows.now pairs c.args.first c.turns.last c.turns.rest.now rs stop c.turns.count c.in_default.ensures
    ((c.turns_to.ensures pairs hm).0 c.if-turns_to.true) (c.turns.invariant.walked pairs rs stop hm h)

pub returns-else-turns_to-clause-ring : goal.returns-else-turns_to-clause-ring
returns-else-turns_to-clause-ring c = λ pairs rs stop hm h.
    walked_broken c.args.rows.now pairs c.args.first c.turns.last c.turns.rest.now rs stop c.turns.count c.in_default.ensures
    (λ turns. let e : false ≡ true = sym c.if-turns_to.false ∙ (c.turns_to.ensures pairs hm).1 turns in cc)
    (c.turns.invariant.walked pairs rs stop hm h)
