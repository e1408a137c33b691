use Rattle.std.proofs.Common.{ap}
use Rattle.solid_data.specs.declared.verdict.Rule.TheVariants.{Unpaired as RuleUnpaired}
use Rattle.solid_faults.specs.Edges.{named_edge, unpaired_failing}
use Rattle.where_solids.proofs.FirstFailing.{first_item}
use Rattle.where_solids.proofs.verdicts.first_unpaired.Goals as goal

pub returns : goal.returns
returns c = first_item (unpaired_failing c.args.solid.now) c.args.unpaired.now _ _ c.in-len1-up.len_at_least
    (ap (named_edge RuleUnpaired) c.edge_key-key.ensures)
