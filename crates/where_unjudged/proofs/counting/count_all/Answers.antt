use Rattle.std.proofs.Common.{get_or, arith, rules}
use Rattle.std.proofs.lemmas.Int.{to_z-of_z}
use mir.Val.{SFits}
use mir.Syntax.{w64}
use Rattle.where_unjudged.proofs.Counted.{count_more, count_small}
use Rattle.where_unjudged.proofs.counting.count_all.Goals as goal

pub count-requires : goal.count-requires
count-requires c = λ t lt. count_small c.args.file.now.entries c.entries.i t (get_or c.entries.counts t 0)
    (c.entries.invariant.counts t (omega (arith, lt, c.entries.invariant.len))) (omega (arith, c.entries-test.true, c.entry_count-i-end.ensures.few))

pub entries-preserved : goal.entries-preserved
entries-preserved c =
    let fits : SFits w64 c.kind_at.result = search rules in
    record {
      len = search rules;
      counts = λ t lt. count_more c.args.file.now.entries c.entries.i t c.kind_at.result _ (get_or c.entries.counts t 0) (get_or c.count.new.counts t 0)
          c.kind_at.ensures (c.entries.invariant.counts t lt)
          (to_z-of_z w64 c.kind_at.result fits) (c.count.ensures t (omega (arith, lt, c.entries.invariant.len)));
    }
