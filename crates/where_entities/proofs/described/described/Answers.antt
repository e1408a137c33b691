use Rattle.std.proofs.Common.{ℕ, ap, ◌∙◌, arith}
use Rattle.where_entities.proofs.Marked.{described_more, mark_is}
use Rattle.where_entities.proofs.described.described.Goals as goal

pub entries-preserved : goal.entries-preserved
entries-preserved c =
    described_more c.args.file.now c.args.numbers.now c.entry_count-count.result c.entries.i c.entry_no.result c.index.result.now c.entries.list
    c.push_if.new.list _ c.entries-test.true (ap (λ (n : ℕ). record { 0 = n }) c.entry_no.ensures)
    (mark_is c.in_ok-marks.marks.items c.entries.i c.index.result.now (omega (arith, c.in_ok-marks.ensures.len, c.entries-test.true)) c.index.ensures
    ∙ c.in_ok-marks.ensures.marks c.entries.i c.entries-test.true) c.in_ok-push_if.ensures c.entries.invariant
