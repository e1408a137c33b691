use Rattle.repair_commands.proofs.GivenWords.{second_is}
use Rattle.repair_commands.proofs.request.second_of.Goals as goal

pub returns-in-len2-up : goal.returns-in-len2-up
returns-in-len2-up c = second_is c.args.words.now c.word-item.result c.as_str.result.now c.in-len2-up.len_at_least c.word-item.is c.as_str.ensures.value
