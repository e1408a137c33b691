use Rattle.std.proofs.Common.{◌≡◌, drop, ◌++◌, map}
use Rattle.cert_text.specs.Text.{spaced}
use Rattle.orient_certificate.specs.Line.{flag_number}
use Rattle.orient_certificate.proofs.writing.put_flags.Given as goal

abbrev pub invariant-flags : goal.invariant-flags
invariant-flags l = l.out ++ spaced (map flag_number (drop l.i l.flags)) ≡ l.fn.out ++ spaced (map flag_number l.flags)
