use Rattle.std.proofs.Common.{ℕ, List, length, ◌++◌}
use Rattle.cert_text.specs.Text.{AreNumbers, IsSpaced}
use Rattle.orient_certificate.proofs.reading.numbers_of.Given as goal

abbrev pub invariant-numbers : goal.invariant-numbers
invariant-numbers l = record {
  spaced : IsSpaced l.text → IsSpaced l.rest;
  read : (ns : List ℕ) → AreNumbers l.rest ns → AreNumbers l.text (l.list ++ ns);
}

abbrev pub decreases-numbers : goal.decreases-numbers
decreases-numbers l = length l.rest
