-- All that fails in a solid, shell by shell.
use Rattle.std.specs.Prelude.{◌≡◌, ℕ, ◌+◌, Bool, true, not, ◌&&◌, List, [], ◌∷◌, ◌++◌, length, Option, Some, None, slice_get, if◌then◌else◌}
use Rattle.iges_base.specs.Word.{is_empty}
use Rattle.solid_data.specs.SolidData.{SolidData}
use Rattle.solid_data.specs.declared.solid.Shell.{Shell}
use Rattle.edge_uses.specs.Before.{AreBelow}
use Rattle.solid_faults.specs.Faults.{Faults, Linking, AreFaults}
use Rattle.solid_faults.specs.Parts.{faces_apart}

-- at each place what fails in the shell at that place
pub record AreAllFaults (s : SolidData) (xs : List Faults) : Type 0 where
  pub each : length xs ≡ length s.shells
  pub shell : (k : ℕ) (h : Shell) (x : Faults) → slice_get s.shells k ≡ Some h → slice_get xs k ≡ Some x → AreFaults s k h x

-- at each place the number that the vertices of the shells before it lie below
abbrev pub EachBelow : SolidData → List ℕ → Type 0
EachBelow s belows = (k : ℕ) (n : ℕ) → slice_get belows k ≡ Some n → AreBelow s k n

-- no vertex is unlinked, as far as fans are judged
abbrev pub none_unlinked : Option Linking → Bool
none_unlinked None = true
none_unlinked (Some l) = is_empty l.unlinked

-- a rule fails in the shell
abbrev pub is_failing : Faults → Bool
is_failing x = not (is_empty x.gaps && is_empty x.unpaired && is_empty (faces_apart x.firsts) && none_unlinked x.linking && is_empty x.shared)

-- the numbers of the shells in which a rule fails, of which the first has this number
abbrev pub failing_from : ℕ → List Faults → List ℕ
failing_from k [] = []
failing_from k (x ∷ xs) = (if is_failing x then k ∷ [] else []) ++ failing_from (k + 1) xs

-- the numbers of the failing shells, from 0
unfoldable pub failing_shells : List Faults → List ℕ
failing_shells xs = failing_from 0 xs
