use Rattle.std.proofs.Common.{ℕ, ap, arith, ◌≡◌}
use Rattle.where_unjudged.specs.Loose.{is_loose, number_at}
use Rattle.where_unjudged.proofs.Entities.{loose_is, loose_more}
use Rattle.where_unjudged.proofs.loose.loose.Goals as goal

pub entries-preserved : goal.entries-preserved
entries-preserved c =
    let is : c.entry_no-no.result ≡ number_at c.entries.i = ap (λ (n : ℕ). record { 0 = n }) c.entry_no-no.ensures in
    let within = c.in_ok-marks.ensures.len in
    let test : c.is_loose.result ≡ is_loose c.args.member c.args.file.now c.entries.i =
    loose_is c.args.member c.args.file.now c.in_ok-marks.marks.items c.entries.i c.entry_no-no.result c.is_loose.result c.index.result.now
    (omega (arith, within, c.entry_count-count.ensures.is, c.entries-test.true)) is c.index.ensures
    (c.in_ok-marks.ensures.marks c.entries.i (omega (arith, c.entry_count-count.ensures.is, c.entries-test.true))) c.is_loose.ensures in
    loose_more c.args.member c.args.file.now c.entry_count-count.result c.entries.i c.entry_no-no.result c.is_loose.result c.entries.list c.push_if.new.list _
    c.entries-test.true is test c.in_ok-push_if.ensures c.entries.invariant
