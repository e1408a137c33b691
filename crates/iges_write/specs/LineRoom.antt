-- Private: the room of a line that is being made.
use Rattle.std.specs.Prelude.{◌≡◌, ℕ, ◌-◌, ◌≤◌, List, drop}
use Rattle.iges_base.specs.Word.{spaces}

-- behind so many bytes there are spaces
pub record IsLineText (bytes : List ℕ) (len : ℕ) : Type 0 where
  pub few : len ≤ 96
  pub rest : drop len bytes ≡ spaces (96 - len)
