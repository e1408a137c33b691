use Rattle.where_unjudged.proofs.Counted.{none_at, some_at}
use Rattle.where_unjudged.proofs.hints.has_some.Goals as goal

pub returns-then-count_of-gt0 : goal.returns-then-count_of-gt0
returns-then-count_of-gt0 c = λ f are. some_at f c.args.types.now c.types.i c.count_of.result c.types-test.true c.if-count_of-gt0.true
    (c.count_of.ensures f are)

pub types-preserved : goal.types-preserved
types-preserved c = λ f are. none_at f c.args.types.now c.types.i c.count_of.result _ c.types-test.true c.if-count_of-gt0.false (c.count_of.ensures f are)
    (c.types.invariant f are)
