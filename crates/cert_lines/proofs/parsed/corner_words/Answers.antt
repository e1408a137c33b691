use Rattle.std.proofs.Common.{rules}
use Rattle.cert_lines.proofs.LineKinds.{corner_some}
use Rattle.cert_lines.proofs.parsed.corner_words.Goals as goal

pub returns-then-is_empty : goal.returns-then-is_empty
returns-then-is_empty c = λ rs h. corner_some c.args.text.now c.in-Some.rest.now rs (search rules) (search rules) h
