-- How a solid fares before it is mended.
use Rattle.std.specs.Prelude.{◌≡◌, ℕ}
use Rattle.iges_params.specs.Contents.{Contents}
use Rattle.solid_data.specs.Obligations.{AllHold, FirstFalse}
use Rattle.solid_data.specs.SolidData.{SolidData}
use Rattle.solid_data.specs.declared.verdict.Failing.{Failing}
use Rattle.shell_rules.specs.ShellObligations.{solid_obligations}
use Rattle.brep_walk.specs.Places.{places}
use Rattle.solid_verdict.specs.Closed.{IsClosed}
use Rattle.solid_extract.specs.Extracted.{IsExtracted, IsRefused}
use Rattle.named_once.specs.Once.{once, dropped}
use Rattle.mend_commands.specs.Due.{FailsBy, IsOnce}
use Rattle.mend_commands.specs.declared.naming.Again.{Again}
use Rattle.mend_commands.specs.declared.naming.WithoutTwice.{WithoutTwice}
use Rattle.mend_commands.specs.declared.naming.WithoutTwice.TheVariants as without
use Rattle.mend_commands.specs.declared.state.Shells.{Shells}
use Rattle.mend_commands.specs.declared.state.Shells.TheVariants as shells
use Rattle.mend_commands.specs.declared.state.State.{State}
use Rattle.mend_commands.specs.declared.state.State.TheVariants as state

abbrev pub AreShells : SolidData → Shells → Type 0
AreShells s shells.Closed = AllHold (solid_obligations s)
AreShells s (shells.Fails x) = FirstFalse (solid_obligations s) x

abbrev pub IsShellState : SolidData → State → Type 0
IsShellState s (state.Misplaced x) = ⊥
IsShellState s (state.Placed x) = AreShells s x

-- of a solid whose places hold
abbrev pub AreShellsOf : Contents → ℕ → Shells → Type 0
AreShellsOf f n shells.Closed = IsClosed f n
AreShellsOf f n (shells.Fails x) = FailsBy n f x

abbrev pub IsStateOf : Contents → ℕ → State → Type 0
IsStateOf f n (state.Misplaced x) = FirstFalse (places f n) x
IsStateOf f n (state.Placed x) = AreShellsOf f n x

-- the file without what is named twice, what that is, and how the solid fares there
pub record IsAgain (f : Contents) (n : ℕ) (x : Failing) (again : Again) : Type 0 where
  pub twice : IsOnce n f x
  pub file : again.file ≡ once f n
  pub places : again.dropped ≡ dropped f n
  pub shells : AreShellsOf (once f n) n again.shells

-- of a solid of which this place is the first that is false
abbrev pub IsWithoutTwice : Contents → ℕ → Failing → WithoutTwice → Type 0
IsWithoutTwice f n x (without.Refused entity reason) = IsRefused f n entity.0 reason
IsWithoutTwice f n x without.Fails = (g : Contents) × IsExtracted f n g × ¬ IsOnce n f x
IsWithoutTwice f n x (without.Again again) = (g : Contents) × IsExtracted f n g × IsAgain f n x again
