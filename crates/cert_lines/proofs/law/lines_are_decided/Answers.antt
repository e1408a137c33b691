use Rattle.std.proofs.Common.{arith}
use Rattle.cert_lines.proofs.Decided as lemmas
use Rattle.cert_lines.proofs.law.lines_are_decided.Goals as goal

pub returns-clause-always : goal.returns-clause-always
returns-clause-always c = lemmas.lines_are_decided

pub returns-clause-line : goal.returns-clause-line
returns-clause-line c = λ limit bytes line is. (λ long. omega (arith, is.0, long.0), λ misspelt. misspelt.none line is.1)

pub returns-clause-long : goal.returns-clause-long
returns-clause-long c = λ limit bytes long misspelt. misspelt.not_long long
