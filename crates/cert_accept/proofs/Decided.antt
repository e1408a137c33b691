-- Of each obligation that is checked before the lines of a certificate it can be told whether it holds.
use Rattle.std.specs.Prelude.{ℕ}
use Rattle.iges_params.specs.Contents.{Contents}
use Rattle.brep_walk.specs.Places.{places}
use Rattle.brep_walk.specs.SolidOf.{solid_of}
use Rattle.brep_walk.proofs.Decided.{places_decided}
use Rattle.solid_data.proofs.ObligationsDecided.{AreDecided, decided-append}
use Rattle.shell_rules.specs.ShellObligations.{checked_obligations}
use Rattle.shell_rules.proofs.Decided.{checked_decided}
use Rattle.cert_accept.specs.Accepted.{checked}

pub checks_decided : (f : Contents) (n : ℕ) → AreDecided (checked f n)
unfolding checked
checks_decided f n = decided-append (places f n) (checked_obligations (solid_of f n)) (places_decided f n) (checked_decided (solid_of f n))
