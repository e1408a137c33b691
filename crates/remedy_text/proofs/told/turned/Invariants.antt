use Rattle.std.proofs.Common.{◌≡◌, ◌++◌}
use Rattle.remedy_text.proofs.Steps.{found_left}
use Rattle.remedy_text.specs.Told.{turned, turned_at}
use Rattle.remedy_text.proofs.told.turned.Given as goal

abbrev pub invariant-faces : goal.invariant-faces
invariant-faces l = l.told ++ found_left (turned_at l.fates) l.faces l.i ≡ turned l.faces l.fates
