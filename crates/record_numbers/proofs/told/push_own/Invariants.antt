use Rattle.std.proofs.Common.{◌≡◌, ◌++◌, take}
use Rattle.record_numbers.specs.Parts.{said_all}
use Rattle.record_numbers.proofs.PlaceMarks.{own_parts}
use Rattle.record_numbers.proofs.told.push_own.Given as goal

abbrev pub invariant-values : goal.invariant-values
invariant-values l = said_all l.parts.items ≡ said_all l.fn.parts.items ++ own_parts l.own (take l.i l.values)
