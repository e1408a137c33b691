use Rattle.std.proofs.Common.{◌≡◌, suc, map, take}
use Rattle.orient_certificate.specs.OddRing.{row_numbers}
use Rattle.orient_commands.proofs.making.numbers_of.Given as goal

abbrev pub invariant-rows : goal.invariant-rows
invariant-rows l = l.numbers ≡ map suc (row_numbers (take l.i l.rows))
