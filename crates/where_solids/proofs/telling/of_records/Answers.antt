use Rattle.std.proofs.Common.{◌∙◌}
use Rattle.where_solids.proofs.ToldSolids.{told_records}
use Rattle.where_solids.proofs.telling.of_records.Goals as goal

pub returns : goal.returns
returns c =
    told_records c.args.listing c.args.placed.now c.args.no c.args.failing c.path_of.result c.new-out.result c.put_verdict.new.out c.into_bytes.result
    c.requires c.path_of.ensures c.new-out.ensures c.in_ok-put_verdict.ensures
    (c.into_bytes.ensures ∙ c.in_ok-put_record_rest.ensures)
