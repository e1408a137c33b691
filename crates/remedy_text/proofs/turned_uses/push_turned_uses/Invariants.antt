use Rattle.std.proofs.Common.{◌≡◌, ◌++◌, length}
use Rattle.remedy_text.proofs.Steps.{found_left}
use Rattle.remedy_text.specs.Told.{flags_if, turned_use_at}
use Rattle.remedy_text.proofs.turned_uses.push_turned_uses.Given as goal

abbrev pub invariant-uses : goal.invariant-uses
invariant-uses l = l.told ++ found_left (turned_use_at l.walk l.now.reversed (length l.uses)) l.uses l.i ≡ l.fn.told ++ flags_if l.walk l.now
