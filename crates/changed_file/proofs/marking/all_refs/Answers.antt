use Rattle.std.proofs.Common.{◌<◌, arith, length, refl}
use Rattle.solid_data.proofs.Members.{get_some}
use Rattle.changed_file.specs.Emptied.{refs_of}
use Rattle.changed_file.proofs.EntrySteps.{put_next}
use Rattle.changed_file.proofs.marking.all_refs.Goals as goal

pub entries-preserved : goal.entries-preserved
entries-preserved c =
    let lt : c.entries.i < length c.args.file.now.entries = omega (arith, c.entries-test.true, c.entry_count-i-end.ensures.is) in
    let here = get_some c.args.file.now.entries c.entries.i lt in
    put_next (refs_of c.args.file.now) c.args.file.now.entries c.args.file.now.entries c.entries.i here.0 c.entries.out.items
    c.put_refs_at.new.out.items _ here.1 refl (c.in_ok-put_refs_at.ensures here.0 here.1) c.entries.invariant
