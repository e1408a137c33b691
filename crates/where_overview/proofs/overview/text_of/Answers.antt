use Rattle.std.proofs.Common.{sym, ◌∙◌}
use Rattle.where_overview.proofs.AllSolids.{text_told}
use Rattle.where_overview.proofs.overview.text_of.Goals as goal

pub returns : goal.returns
returns c =
    text_told c.args.placed.now c.args.solids.now c.as_slice.result.now c.args.verdicts.now c.as_slice-2.result.now c.len-2.result c.args.tally.unjudged
    c.new-out.result c.put_start.new.out c.put_solids.new.out c.put_rest.new.out c.into_bytes.result
    c.new-out.ensures (c.in_ok-put_start.ensures c.args.verdicts.now (c.requires.each ∙ sym c.len.ensures) (sym c.requires.failing))
    c.as_slice.ensures c.as_slice-2.ensures c.in_ok-put_solids.ensures c.len-2.ensures c.requires.unjudged c.in_ok-put_rest.ensures c.into_bytes.ensures
