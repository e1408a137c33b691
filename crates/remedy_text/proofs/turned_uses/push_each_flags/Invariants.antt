use Rattle.std.proofs.Common.{◌≡◌, ◌++◌, flat_map}
use Rattle.std.specs.List.{enumerate_from}
use Rattle.remedy_text.proofs.Steps.{found_left}
use Rattle.remedy_text.specs.Told.{flags_at}
use Rattle.remedy_text.proofs.turned_uses.push_each_flags.Given as goal

abbrev pub invariant-loops : goal.invariant-loops
invariant-loops l = l.told ++ found_left (flags_at l.nows) l.loops l.i ≡ l.fn.told ++ flat_map (flags_at l.nows) (enumerate_from 0 l.loops)
