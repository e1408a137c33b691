use Rattle.std.proofs.Common.{◌≡◌, take}
use Rattle.std.specs.Str.Parse.{AllDigits, digits_value}
use Rattle.cert_text.proofs.number.digits_among.Given as goal

abbrev pub invariant-digits : goal.invariant-digits
invariant-digits l = record {
  digits : AllDigits 10 (take l.i l.text);
  value : l.value ≡ digits_value 10 (take l.i l.text);
}
