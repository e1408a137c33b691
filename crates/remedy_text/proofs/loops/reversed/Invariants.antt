use Rattle.std.proofs.Common.{◌≡◌, ◌++◌}
use Rattle.remedy_text.proofs.Steps.{found_left}
use Rattle.remedy_text.specs.Told.{reversed, reversed_of}
use Rattle.remedy_text.proofs.loops.reversed.Given as goal

abbrev pub invariant-faces : goal.invariant-faces
invariant-faces l = l.told ++ found_left (reversed_of l.fates) l.faces l.i ≡ reversed l.faces l.fates
