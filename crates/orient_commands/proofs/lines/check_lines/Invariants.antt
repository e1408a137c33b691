use Rattle.std.proofs.Common.{◌+◌}
use Rattle.orient_commands.specs.Reading.{IsRestOf}
use Rattle.orient_commands.proofs.lines.check_lines.Given as goal

abbrev pub invariant-shells : goal.invariant-shells
invariant-shells l = IsRestOf l.solid l.text (l.k + 2) l.rest
