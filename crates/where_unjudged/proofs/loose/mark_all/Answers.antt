use Rattle.std.proofs.Common.{ℕ, ap, arith, false, get_or, rules}
use Rattle.where_unjudged.proofs.Entities.{named_more}
use Rattle.where_unjudged.proofs.loose.mark_all.Goals as goal

pub entries-preserved : goal.entries-preserved
entries-preserved c = record {
  len = search rules;
  marks = λ k lt. named_more c.args.member c.args.file.now k c.entry_count-count.result c.entries.i c.entry_no.result
      (get_or c.entries.marks k false) (get_or c.mark_members_of.new.marks k false) _ c.entries-test.true
      (ap (λ (n : ℕ). record { 0 = n }) c.entry_no.ensures) (c.mark_members_of.ensures k (omega (arith, lt, c.entries.invariant.len)))
      (c.entries.invariant.marks k lt);
}
