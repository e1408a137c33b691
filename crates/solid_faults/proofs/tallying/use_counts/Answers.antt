use Rattle.std.proofs.Common.{◌==◌, nat_lt, arith}
use Rattle.solid_faults.specs.declared.edge.Unpaired.{Unpaired}
use Rattle.solid_faults.specs.UseCounts.{use_count}
use Rattle.shell_components.proofs.Counting.{counted_step, counted_few}
use Rattle.solid_faults.proofs.tallying.use_counts.Goals as goal

pub one_more-counts-requires-clause-once : goal.one_more-counts-requires-clause-once
one_more-counts-requires-clause-once c =
    omega (arith, c.edges-test.true, c.edges.invariant.once, counted_few (λ (u : Unpaired). use_count u == 1) c.args.unpaired.now c.edges.i c.edges.auto.i-end)

pub one_more-counts-requires-clause-same_way : goal.one_more-counts-requires-clause-same_way
one_more-counts-requires-clause-same_way c =
    omega (
      arith,
      c.edges-test.true,
      c.edges.invariant.same_way,
      counted_few (λ (u : Unpaired). use_count u == 2) c.args.unpaired.now c.edges.i
          c.edges.auto.i-end,
    )

pub one_more-counts-requires-clause-many : goal.one_more-counts-requires-clause-many
one_more-counts-requires-clause-many c =
    omega (
      arith,
      c.edges-test.true,
      c.edges.invariant.many,
      counted_few (λ (u : Unpaired). nat_lt 2 (use_count u)) c.args.unpaired.now c.edges.i
          c.edges.auto.i-end,
    )

pub edges-preserved : goal.edges-preserved
edges-preserved c = record {
  once = counted_step (λ (u : Unpaired). use_count u == 1) c.args.unpaired.now c.edges.i _ _ _ c.edges-test.true c.edges.invariant.once
      c.one_more-counts.ensures.once;
  same_way = counted_step (λ (u : Unpaired). use_count u == 2) c.args.unpaired.now c.edges.i _ _ _ c.edges-test.true c.edges.invariant.same_way
      c.one_more-counts.ensures.same_way;
  many = counted_step (λ (u : Unpaired). nat_lt 2 (use_count u)) c.args.unpaired.now c.edges.i _ _ _ c.edges-test.true c.edges.invariant.many
      c.one_more-counts.ensures.many;
}
