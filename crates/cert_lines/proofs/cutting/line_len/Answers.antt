use Rattle.cert_lines.proofs.Cuts.{cut_at, cut_whole}
use Rattle.cert_lines.proofs.cutting.line_len.Goals as goal

pub returns-in-Some-clause-cut : goal.returns-in-Some-clause-cut
returns-in-Some-clause-cut c = cut_at c.args.text.now c.in-Some.end c.in-Some.ensures.within c.in-Some.ensures.is_end c.in-Some.ensures.before

pub returns-in-None-clause-cut : goal.returns-in-None-clause-cut
returns-in-None-clause-cut c = cut_whole c.args.text.now c.requires c.in-None.ensures
