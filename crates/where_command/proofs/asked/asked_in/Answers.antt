use Rattle.where_command.proofs.GivenWords.{one_word}
use Rattle.where_command.proofs.asked.asked_in.Goals as goal

pub returns-in-len1 : goal.returns-in-len1
returns-in-len1 c = one_word c.args.words.now c.in-len1.len_at_least c.in-len1.len_below
