use Rattle.std.specs.List.{AllByRecursion}
use Rattle.std.proofs.Common.{◌<◌, ◌∙◌, arith, length, subst}
use Rattle.solid_data.proofs.Members.{get_some}
use Rattle.iges_write.specs.Writable.{IsHeld}
use Rattle.mend_commands.proofs.WritableEntries.{all_held, next_held}
use Rattle.mend_commands.proofs.writable.recall_writable.Goals as goal

pub entries-init : goal.entries-init
entries-init c = tt

pub entries-preserved : goal.entries-preserved
entries-preserved c =
    let lt : c.entries.i < length c.args.file.now.entries = omega (arith, c.entries-test.true, c.entry_count-i-end.ensures.is) in
    let here = get_some c.args.file.now.entries c.entries.i lt in
    next_held c.args.file.now.entries c.entries.i here.0 here.1 (c.recall_entry.ensures here.0 here.1) c.entries.invariant
