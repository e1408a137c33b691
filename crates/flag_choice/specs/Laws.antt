-- What is chosen, of which lists.
use Rattle.std.specs.Prelude.{◌≡◌, ◌⊎◌, ℕ, Bool, List, length, Some, slice_get}
use Rattle.std.specs.List.{AllByRecursion}
use Rattle.solid_data.specs.Ring.{numbers_from}
use Rattle.solid_data.specs.SolidData.{SolidData}
use Rattle.solid_data.specs.declared.solid.Shell.{Shell}
use Rattle.edge_uses.specs.RowRelations.{IsPaired}
use Rattle.edge_uses.specs.ShellRows.{shell_rows}
use Rattle.edge_uses.specs.Around.{IsReached}
use Rattle.orient_certificate.specs.Flags.{face_flags, shell_with}
use Rattle.flag_choice.specs.Choice.{reversed}
use Rattle.flag_choice.specs.Suiting.{FlagsOrient, FlagsSuit, AllSuit}
use Rattle.flag_choice.specs.Turned.{turned}

-- Under the flags that suit a shell the two uses of each edge run in opposite directions.
abbrev pub SuitOrients : Type 0
SuitOrients = (s : SolidData) (k : ℕ) (x : List Bool) → FlagsSuit s k x → FlagsOrient s k x

-- They do so under no other list but its reverse.
abbrev pub TwoListsOrient : Type 0
TwoListsOrient = (s : SolidData) (k : ℕ) (x y : List Bool) → FlagsSuit s k x → FlagsOrient s k y → (y ≡ x) ⊎ (y ≡ reversed x)

-- The faces' own flags are chosen where the uses run in opposite directions under them.
abbrev pub OwnAreChosen : Type 0
OwnAreChosen = (s : SolidData) (k : ℕ) (x : List Bool) → FlagsSuit s k x → FlagsOrient s k (face_flags (slice_get s.shells k))
    → x ≡ face_flags (slice_get s.shells k)

-- With flags that suit a shell in place of its faces' PAIR and REACH hold of it, whatever the flags of the other shells are.
abbrev pub SuitedIsSewn : Type 0
SuitedIsSewn = (s : SolidData) (all : List (List Bool)) (k : ℕ) (h : Shell) (flags : List Bool) → slice_get s.shells k ≡ Some h → FlagsSuit s k flags
    → AllByRecursion (IsPaired (shell_rows (turned all s) (shell_with flags h))) (shell_rows (turned all s) (shell_with flags h)).edges
    × AllByRecursion (IsReached (shell_rows (turned all s) (shell_with flags h))) (numbers_from 0 (length (shell_with flags h).faces))

-- A solid has one choice of flags.
abbrev pub OneChoice : Type 0
OneChoice = (s : SolidData) (x y : List (List Bool)) → AllSuit s x → AllSuit s y → x ≡ y
