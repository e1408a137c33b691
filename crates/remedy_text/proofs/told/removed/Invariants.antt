use Rattle.std.proofs.Common.{◌≡◌, ◌++◌}
use Rattle.remedy_text.proofs.Steps.{found_left}
use Rattle.remedy_text.specs.Told.{removed, removed_at}
use Rattle.remedy_text.proofs.told.removed.Given as goal

abbrev pub invariant-faces : goal.invariant-faces
invariant-faces l = l.told ++ found_left (removed_at l.fates) l.faces l.i ≡ removed l.faces l.fates
