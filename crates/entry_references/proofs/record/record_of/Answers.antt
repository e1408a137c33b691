use Rattle.std.proofs.Common.{◌≡◌, Some, pos}
use Rattle.iges_params.specs.Named.{named}
use Rattle.entry_references.specs.Refs.{Record}
use Rattle.entry_references.proofs.NamedRecords.{named_pair, named_few, named_within}
use Rattle.entry_references.proofs.record.record_of.Goals as goal

pub returns-in-Some-Some : goal.returns-in-Some-Some
returns-in-Some-Some c =
    let f = c.args.file.now in
    let r : Record = (c.in-Some-Some.entry.now, c.in-Some-Some.values.now) in
    let is : named f (pos c.args.no.0) ≡ Some r = named_pair (named f (pos c.args.no.0)) c.in-Some-Some.entry.now c.in-Some-Some.values.now
    c.in-Some-Some.ensures.named c.in-Some-Some.ensures' in
    (is, c.in-Some-Some.ensures.bounded, named_few f c.args.no.0 r c.entry_count.ensures.made is, named_within f c.args.no.0 r is)
