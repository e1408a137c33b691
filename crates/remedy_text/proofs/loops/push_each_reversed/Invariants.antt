use Rattle.std.proofs.Common.{◌≡◌, ◌++◌, flat_map}
use Rattle.std.specs.List.{enumerate_from}
use Rattle.remedy_text.proofs.Steps.{found_left}
use Rattle.remedy_text.specs.Told.{reversed_at}
use Rattle.remedy_text.proofs.loops.push_each_reversed.Given as goal

abbrev pub invariant-loops : goal.invariant-loops
invariant-loops l = l.told ++ found_left (reversed_at l.face l.nows) l.loops l.i ≡ l.fn.told ++ flat_map (reversed_at l.face l.nows) (enumerate_from 0 l.loops)
