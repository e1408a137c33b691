use Rattle.std.proofs.Common.{◌∙◌}
use Rattle.flag_choice.proofs.ChosenLists.{none_are_set}
use Rattle.flag_choice.proofs.choosing.none_set.Goals as goal

pub returns : goal.returns
returns c = c.all_clear.ensures ∙ none_are_set c.args.flags.now
