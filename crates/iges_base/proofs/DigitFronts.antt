-- Digits are bytes from 48 to 57, and no others.
use Rattle.std.proofs.Common.{◌≡◌, ℕ, true, false, not, subst}
use Rattle.std.specs.Char.{is_ascii_digit}
use Rattle.std.specs.Int.{IsInRange}
use Rattle.std.specs.Prelude.{nat_le, ◌==◌}
use Rattle.std.proofs.lemmas.Bool.{and_parts, leb-true, both_ways, ne_eqb, not_from_false}

pub digit_range : (b : ℕ) → is_ascii_digit b ≡ true → IsInRange 48 57 b
digit_range b e = let parts = and_parts (nat_le 48 b) (nat_le b 57) e in (leb-true 48 b parts.0, leb-true b 57 parts.1)

pub digit_is_not : (n b : ℕ) → is_ascii_digit n ≡ false → is_ascii_digit b ≡ true → not (b == n) ≡ true
digit_is_not n b none e = not_from_false (b == n) (ne_eqb b n (λ is. both_ways (is_ascii_digit n) none (subst (λ (x : ℕ). is_ascii_digit x ≡ true) is e)))
