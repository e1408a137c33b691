use Rattle.std.proofs.Common.{◌≡◌, ◌++◌}
use Rattle.remedy_text.proofs.Steps.{found_left}
use Rattle.remedy_text.specs.Bodies.{kept, kept_at}
use Rattle.remedy_text.proofs.bodies.kept.Given as goal

abbrev pub invariant-faces : goal.invariant-faces
invariant-faces l = l.told ++ found_left (kept_at l.fates) l.faces l.i ≡ kept l.faces l.fates
