use Rattle.open_certificate.proofs.Spelling.{line_one}
use Rattle.open_certificate.proofs.law.one_line.Goals as goal

pub returns : goal.returns
returns c = line_one
