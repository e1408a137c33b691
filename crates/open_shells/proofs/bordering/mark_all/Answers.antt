use Rattle.std.proofs.Common.{arith, refl, ◌+◌, get_or}
use Rattle.shell_reach.specs.Reaching.{row_numbers}
use Rattle.std.proofs.Common.{take}
use Rattle.open_shells.proofs.BorderLoops.{marks_more, taken_more, row_low}
use Rattle.open_shells.proofs.bordering.mark_all.Goals as goal

pub rows-preserved : goal.rows-preserved
rows-preserved c =
    let low = row_low _ c.args.rows.now c.rows.i (record { 0 = 0 }) (omega (arith, c.rows-test.true)) c.requires in
    record {
      len = omega (arith, c.rows.invariant.len);
      marks = marks_more c.args.seen.now.items c.rows.seen.items _ (row_numbers (take c.rows.i c.args.rows.now))
          (row_numbers (take (c.rows.i + 1) c.args.rows.now)) (get_or c.args.rows.now c.rows.i (record { 0 = 0 })).0 (omega (arith, low, c.rows.invariant.len))
          refl
          (taken_more c.args.rows.now c.rows.i (record { 0 = 0 }) (omega (arith, c.rows-test.true))) c.rows.invariant.marks;
    }
