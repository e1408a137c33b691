use Rattle.cert_lines.proofs.Spelling.{line_one}
use Rattle.cert_lines.proofs.law.one_line.Goals as goal

pub returns : goal.returns
returns c = line_one
