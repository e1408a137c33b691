use Rattle.open_commands.proofs.AcceptedFor as lemmas
use Rattle.open_commands.proofs.law.borders_are_cycles.Goals as goal

pub returns : goal.returns
returns c = lemmas.borders_are_cycles
