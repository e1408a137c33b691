use Rattle.std.proofs.Common.{◌≡◌, take, map}
use Rattle.orient_certificate.specs.Line.{flag_number}
use Rattle.orient_certificate.proofs.reading.flags_of.Given as goal

abbrev pub invariant-numbers : goal.invariant-numbers
invariant-numbers l = take l.i l.numbers ≡ map flag_number l.list
