use Rattle.std.proofs.Common.{pos}
use Rattle.record_values.proofs.EntryValues.{if_few}
use Rattle.record_values.proofs.named.values_named.Goals as goal

pub returns-in-Some-clause-few : goal.returns-in-Some-clause-few
returns-in-Some-clause-few c = if_few c.args.file.now (pos c.in-Some.no.0) c.values.result c.in-Some.ensures.made.limits c.values.ensures
