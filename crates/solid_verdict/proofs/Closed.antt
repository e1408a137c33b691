-- The obligations on a solid of a file say whether it is closed, and of each it can be told whether it holds.
use Rattle.std.specs.Prelude.{ℕ}
use Rattle.iges_params.specs.Contents.{Contents}
use Rattle.brep_walk.specs.Places.{places}
use Rattle.brep_walk.specs.SolidOf.{solid_of}
use Rattle.brep_walk.proofs.Decided.{places_decided}
use Rattle.solid_data.proofs.ObligationLemmas.{AllHold-append, AllHold-append_left, AllHold-append_right}
use Rattle.solid_data.proofs.ObligationsDecided.{AreDecided, decided-append}
use Rattle.shell_rules.specs.ShellObligations.{solid_obligations}
use Rattle.shell_rules.proofs.ClosedLemmas.{closed_is_all_hold}
use Rattle.shell_rules.proofs.Decided.{solid_decided}
use Rattle.solid_verdict.specs.Closed.{obligations, ClosedIsAllHold}

pub obligations_decided : (f : Contents) (n : ℕ) → AreDecided (obligations f n)
unfolding obligations
obligations_decided f n = decided-append (places f n) (solid_obligations (solid_of f n)) (places_decided f n) (solid_decided (solid_of f n))

-- The one list of obligations says what is closed.
pub closed_is_all_hold_of_file : ClosedIsAllHold
unfolding obligations
closed_is_all_hold_of_file f n = (
  λ c. AllHold-append (places f n) (solid_obligations (solid_of f n)) c.placed ((closed_is_all_hold (solid_of f n)).0 c.closed),
  λ h. record {
    placed = AllHold-append_left (places f n) (solid_obligations (solid_of f n)) h;
    closed =
        (closed_is_all_hold (solid_of f n)).1 (AllHold-append_right (places f n) (solid_obligations (solid_of f n)) h);
  },
)
