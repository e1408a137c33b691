use Rattle.orient_certificate.proofs.Lines.{line_one}
use Rattle.orient_certificate.proofs.law.one_orient_line.Goals as goal

pub returns : goal.returns
returns c = line_one
