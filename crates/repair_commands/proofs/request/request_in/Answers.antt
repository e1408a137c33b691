use Rattle.repair_commands.proofs.GivenWords.{few_words, two_words, three_words}
use Rattle.repair_commands.proofs.request.request_in.Goals as goal

pub returns-in-len2 : goal.returns-in-len2
returns-in-len2 c = two_words c.args.words.now c.command-item.result c.as_str.result.now c.lines_request.result c.in-len2.len_at_least c.in-len2.len_below
    c.command-item.is c.as_str.ensures.value c.lines_request.ensures

pub returns-in-len3 : goal.returns-in-len3
returns-in-len3 c = three_words c.args.words.now c.command-item-then-words-lt4.result c.number-item.result c.as_str-in-len3.result.now
    c.as_str-in-len3-2.result.now c.numbered_request.result c.in-len3.len_at_least c.in-len3.len_below c.command-item-then-words-lt4.is
    c.as_str-in-len3.ensures.value c.number-item.is c.as_str-in-len3-2.ensures.value c.numbered_request.ensures

pub returns-in_default : goal.returns-in_default
returns-in_default c = few_words c.args.words.now c.in_default.len_below
