use Rattle.named_sizes.specs.Sizes.{shell_size}
use Rattle.named_sizes.proofs.Sums.{capped_within}
use Rattle.named_sizes.proofs.records.known_shell.Goals as goal

pub returns-in-Some-clause-within : goal.returns-in-Some-clause-within
returns-in-Some-clause-within c = capped_within c.in-Some.size _ (c.in-Some.ensures (shell_size c.args.file.now) c.requires.shells)
