use Rattle.std.proofs.Common.{◌≡◌, ◌++◌, flat_map}
use Rattle.std.specs.List.{enumerate_from}
use Rattle.remedy_text.proofs.Steps.{found_left}
use Rattle.remedy_text.specs.Bodies.{body_at}
use Rattle.remedy_text.proofs.bodies.bodies_of.Given as goal

abbrev pub invariant-faces : goal.invariant-faces
invariant-faces l = l.told ++ found_left (body_at l.groups) l.kept l.i ≡ flat_map (body_at l.groups) (enumerate_from 0 l.kept)
