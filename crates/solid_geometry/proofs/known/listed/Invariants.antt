use Rattle.std.proofs.Common.{◌≡◌, take}
use Rattle.solid_geometry.proofs.known.listed.Given as goal

abbrev pub invariant-numbers : goal.invariant-numbers
invariant-numbers l = l.list ≡ take l.number-index l.numbers
