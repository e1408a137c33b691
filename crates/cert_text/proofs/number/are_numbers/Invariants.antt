use Rattle.std.proofs.Common.{length}
use Rattle.std.specs.Prelude.{◌↔◌}
use Rattle.cert_text.specs.Text.{IsSpaced}
use Rattle.cert_text.proofs.number.are_numbers.Given as goal

abbrev pub invariant-numbers : goal.invariant-numbers
invariant-numbers l = IsSpaced l.rest ↔ IsSpaced l.text

abbrev pub decreases-numbers : goal.decreases-numbers
decreases-numbers l = length l.rest
