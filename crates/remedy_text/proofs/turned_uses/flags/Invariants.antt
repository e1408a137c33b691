use Rattle.std.proofs.Common.{◌≡◌, ◌++◌}
use Rattle.remedy_text.proofs.Steps.{found_left}
use Rattle.remedy_text.specs.Told.{flags, flags_of}
use Rattle.remedy_text.proofs.turned_uses.flags.Given as goal

abbrev pub invariant-faces : goal.invariant-faces
invariant-faces l = l.told ++ found_left (flags_of l.fates) l.faces l.i ≡ flags l.faces l.fates
