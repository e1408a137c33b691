use Rattle.std.proofs.Common.{◌≡◌, ◌++◌, drop}
use Rattle.line_layout.specs.Strays.{with_letter}
use Rattle.line_layout.proofs.strays.with_letter.Given as goal

abbrev pub invariant-strays : goal.invariant-strays
invariant-strays l = l.own.items ++ with_letter l.letter (drop l.i l.strays) ≡ with_letter l.letter l.strays
