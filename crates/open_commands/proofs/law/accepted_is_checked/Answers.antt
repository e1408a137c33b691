use Rattle.open_commands.proofs.AcceptedFor as lemmas
use Rattle.open_commands.proofs.law.accepted_is_checked.Goals as goal

pub returns : goal.returns
returns c = lemmas.accepted_is_checked
