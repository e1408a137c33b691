use Rattle.where_command.proofs.GivenWords.{first_is}
use Rattle.where_command.proofs.asked.first_of.Goals as goal

pub returns-in-len1-up : goal.returns-in-len1-up
returns-in-len1-up c = first_is c.args.words.now c.file-item.result c.as_str.result.now c.in-len1-up.len_at_least c.file-item.is c.as_str.ensures.value
