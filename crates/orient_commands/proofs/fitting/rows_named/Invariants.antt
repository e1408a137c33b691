use Rattle.std.proofs.Common.{◌≡◌, suc, map, take}
use Rattle.orient_certificate.specs.OddRing.{row_numbers}
use Rattle.orient_commands.proofs.fitting.rows_named.Given as goal

-- the first numbers name the rows
abbrev pub invariant-numbers : goal.invariant-numbers
invariant-numbers l = take l.i l.numbers ≡ map suc (row_numbers l.rows)
