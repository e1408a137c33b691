use Rattle.std.proofs.Common.{rules}
use Rattle.open_certificate.proofs.RowWords.{no_rows, rows_spaced}
use Rattle.open_certificate.proofs.parsed.row_words.Goals as goal

pub returns-then-is_empty : goal.returns-then-is_empty
returns-then-is_empty c = λ rs h. no_rows c.args.text.now c.args.word.now c.in-Some.rest.now rs (search rules) (search rules) h

pub returns-else-are_numbers : goal.returns-else-are_numbers
returns-else-are_numbers c = λ rs h. (let spaced = rows_spaced c.args.text.now c.args.word.now c.in-Some.rest.now rs (search rules) h in search (rules, spaced))
