use Rattle.std.proofs.Common.{◌≡◌, drop, ◌++◌}
use Rattle.cert_text.specs.Text.{spaced}
use Rattle.cert_text.proofs.writing.put_numbers.Given as goal

abbrev pub invariant-numbers : goal.invariant-numbers
invariant-numbers l = l.out ++ spaced (drop l.i l.numbers) ≡ l.fn.out ++ spaced l.numbers
