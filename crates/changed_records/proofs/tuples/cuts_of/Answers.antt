use Rattle.std.proofs.Common.{arith, refl}
use Rattle.changed_records.proofs.Cutting.{next_cut, next_behind}
use Rattle.changed_records.proofs.tuples.cuts_of.Goals as goal

pub tuples-preserved : goal.tuples-preserved
tuples-preserved c = record {
  tuples = next_cut c.args.values.now c.tuples.end c.tuples.left c.in_ok-size.size _ c.tuples.places c.push.new.self _ c.tuples-test.true
      c.in_ok-size.ensures.is c.in_ok-push.ensures.ok refl c.tuples.invariant.tuples;
  behind = next_behind c.args.values.now c.tuples.end c.tuples.left c.in_ok-size.size _ _ c.tuples-test.true c.in_ok-size.ensures.is refl
      c.tuples.invariant.behind;
  room = omega (arith, c.in_ok-size.ensures.within, c.in_ok-size.ensures.few);
}
