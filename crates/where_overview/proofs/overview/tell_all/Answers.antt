use Rattle.std.proofs.Common.{length, ◌∙◌, ap}
use Rattle.where_overview.proofs.AllSolids.{all_told, verdicts_each}
use Rattle.where_overview.proofs.overview.tell_all.Goals as goal

pub text_of-requires-clause-each : goal.text_of-requires-clause-each
text_of-requires-clause-each c =
    verdicts_each c.args.placed.now.file (length c.args.placed.now.bytes) c.as_slice.result.now c.in_ok-verdicts.verdicts c.in_ok-verdicts.ensures
    ∙ ap length c.as_slice.ensures

pub returns : goal.returns
returns c =
    all_told c.args.placed.now c.in_ok-solids.solids c.as_slice.result.now c.in_ok-verdicts.verdicts c.as_slice-2.result.now c.len.result
    c.tally_of-tally.result.failing c.tally_of-tally.result.unjudged c.all_closed.result c.in_ok-text_of.field-0
    c.in_ok-solids.ensures c.as_slice.ensures c.in_ok-verdicts.ensures c.as_slice-2.ensures c.len.ensures c.tally_of-tally.ensures.failing
    c.tally_of-tally.ensures.unjudged c.all_closed.ensures
    c.in_ok-text_of.ensures
