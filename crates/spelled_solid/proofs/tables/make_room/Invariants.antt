use Rattle.std.proofs.Common.{ℕ, List, length, ◌-◌}
use Rattle.spelled_solid.specs.Words.{AreWords}
use Rattle.spelled_solid.proofs.tables.make_room.Given as goal

abbrev pub invariant-rows : goal.invariant-rows
invariant-rows l = (told : ℕ → List ℕ) → AreWords told l.fn.words.items → AreWords told l.words.items

abbrev pub decreases-rows : goal.decreases-rows
decreases-rows l = l.count - length l.words.items
