use Rattle.std.proofs.Common.{length, ◌-◌, ◌≤◌, ◌≡◌, true, take}
use Rattle.std.specs.Char.{is_ascii_digit}
use Rattle.std.specs.List.{list_all}
use Rattle.iges_base.proofs.leading_digits.digits_len.Given as goal

abbrev pub invariant-digits : goal.invariant-digits
invariant-digits l = record { within : l.len ≤ length l.text; all : list_all is_ascii_digit (take l.len l.text) ≡ true }

abbrev pub decreases-digits : goal.decreases-digits
decreases-digits l = length l.text - l.len
