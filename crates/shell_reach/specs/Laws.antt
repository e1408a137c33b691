-- What follows from how rows reach faces.
use Rattle.std.specs.Prelude.{◌≡◌, ◌<◌, ℕ, List}
use Rattle.std.specs.List.{AllByRecursion}
use Rattle.solid_data.specs.Ring.{numbers_from}
use Rattle.edge_uses.specs.ShellRows.{ShellRows}
use Rattle.edge_uses.specs.Around.{IsReached}
use Rattle.edge_uses.specs.Mates.{ArePaired}
use Rattle.shell_reach.specs.Reaching.{ReachesAll, IsBreadthFirst}

-- A shell has one list of rows that reaches all its faces breadth first.
abbrev pub OneReachOrder : Type 0
OneReachOrder = (d : ShellRows) (a b : List ℕ) → ReachesAll d a → IsBreadthFirst d a → ReachesAll d b → IsBreadthFirst d b → a ≡ b

-- A shell whose edges are paired and whose faces are all reached has such a list.
abbrev pub SomeReachOrder : Type 0
SomeReachOrder = (d : ShellRows) → ArePaired d → 0 < d.face_count → AllByRecursion (IsReached d) (numbers_from 0 d.face_count)
    → (rows : List ℕ) × ReachesAll d rows × IsBreadthFirst d rows
