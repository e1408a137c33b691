-- How a solid fares, by what its walk and its shells tell.
use Rattle.std.specs.Prelude.{◌≡◌, ℕ, List, Some}
use Rattle.std.proofs.Common.{subst, sym}
use Rattle.iges_params.specs.Contents.{Contents}
use Rattle.solid_data.specs.Obligations.{AllHold, FirstFalse}
use Rattle.solid_data.specs.SolidData.{SolidData}
use Rattle.solid_data.specs.declared.verdict.Failing.{Failing}
use Rattle.solid_data.proofs.ObligationLemmas.{FirstFalse-not_all}
use Rattle.shell_rules.specs.Closed.{IsClosedSolid}
use Rattle.shell_rules.specs.ShellObligations.{solid_obligations}
use Rattle.shell_rules.proofs.ClosedLemmas.{closed_is_all_hold}
use Rattle.brep_walk.specs.Places.{places}
use Rattle.brep_walk.specs.SolidOf.{solid_of}
use Rattle.named_once.specs.Once.{once}
use Rattle.solid_extract.specs.Extracted.{IsExtracted}
use Rattle.command_replies.specs.declared.answer.Answer.{Answer}
use Rattle.mend_commands.specs.Due.{IsOnce, OfMend, again, OfPlaced}
use Rattle.mend_commands.specs.declared.naming.Again.{Again}
use Rattle.mend_commands.specs.declared.state.Shells.{Shells}
use Rattle.mend_commands.specs.declared.state.Shells.TheVariants as shells
use Rattle.mend_commands.specs.declared.state.State.{State}
use Rattle.mend_commands.specs.declared.state.State.TheVariants as state
use Rattle.mend_commands.specs.State.{AreShells, AreShellsOf, IsAgain, IsShellState, IsStateOf}

shells_so : (f : Contents) (n : ℕ) (s : SolidData) (x : Shells) → s ≡ solid_of f n → AllHold (places f n) → AreShells s x → AreShellsOf f n x
shells_so f n s shells.Closed same all is = record { placed = all; closed = subst IsClosedSolid same ((closed_is_all_hold s).1 is) }
shells_so f n s (shells.Fails y) same all is = record { placed = all; first = subst (λ (t : SolidData). FirstFalse (solid_obligations t) y) same is }

pub state_so : (f : Contents) (n : ℕ) (s : SolidData) (x : State) → s ≡ solid_of f n → AllHold (places f n) → IsShellState s x → IsStateOf f n x
state_so f n s (state.Misplaced y) same all is = absurd is
state_so f n s (state.Placed y) same all is = shells_so f n s y same all is

-- how the solid fares in the file that was made
pub again_shells : (f : Contents) (n : ℕ) (x : Failing) (made : Again) → IsAgain f n x made → AreShellsOf made.file n made.shells
again_shells f n x made is = subst (λ (h : Contents). AreShellsOf h n made.shells) (sym is.file) is.shells

-- it isn't one whose records are right without what is named twice, where a place is false then, too
pub still_false : (f h : Contents) (n : ℕ) (x y : Failing) → h ≡ once f n → FirstFalse (places h n) y → IsOnce n f x → ⊥
still_false f h n x y is one once_is =
    FirstFalse-not_all (places (once f n) n) y (subst (λ (k : Contents). FirstFalse (places k n) y) is one) once_is.placed

-- what is owed of that file is owed of the one that was read
pub again_owed : (f : Contents) (n : ℕ) (x : Failing) (made : Again) (g : Contents) → IsExtracted f n g → IsAgain f n x made → (a : Answer) (t : List ℕ)
    → OfPlaced n made.file (Some x) a t → OfMend n f a t
again_owed f n x made g extracted is a t owed = again g extracted x is.twice (subst (λ (h : Contents). OfPlaced n h (Some x) a t) is.file owed)
