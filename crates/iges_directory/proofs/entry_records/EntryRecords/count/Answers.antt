use Rattle.std.proofs.Common.{length, ap, arith}
use Rattle.iges_directory.specs.Paired.{Pairs}
use Rattle.iges_directory.proofs.PairedLists.{paired_count}
use Rattle.iges_directory.proofs.entry_records.EntryRecords.count.Goals as goal

pub returns : goal.returns
returns c =
    let all = paired_count c.self.inside.placed.items c.self.inside.values.items c.self.invariant in
    omega (arith, c.len.ensures, all, ap (λ (es : Pairs). length es) c.self.view_is)
