use Rattle.where_overview.proofs.AllSolids.{unjudged_written}
use Rattle.where_overview.proofs.overview.put_unjudged_lines.Goals as goal

pub returns : goal.returns
returns c =
    unjudged_written c.put_unjudged_sentence.result c.args.unjudged c.args.out.now c.put.new.self c.put_number.new.out c.put-2.new.self
    c.put_unjudged_sentence.new.out c.in_ok-put.ensures.ok c.in_ok-put_number.ensures c.in_ok-put-2.ensures.ok c.put_unjudged_sentence.ensures
