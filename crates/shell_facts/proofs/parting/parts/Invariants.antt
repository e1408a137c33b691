use Rattle.std.proofs.Common.{◌≡◌, ◌++◌}
use Rattle.shell_facts.specs.PartFacts.{first_if, parts_of}
use Rattle.solid_faults.proofs.GapSteps.{found_left}
use Rattle.shell_facts.proofs.parting.parts.Given as goal

abbrev pub invariant-faces : goal.invariant-faces
invariant-faces l = l.out.items ++ found_left first_if l.firsts l.i ≡ parts_of l.firsts
