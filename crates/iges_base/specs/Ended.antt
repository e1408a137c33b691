-- A text as pieces, each ended by an LF, and what is after them.
use Rattle.std.specs.Prelude.{◌≡◌, ℕ, List, [], ◌∷◌, ◌++◌, IsTrue, flat_map}
use Rattle.std.specs.List.{list_all}
use Rattle.iges_base.specs.InLine.{is_in_line}

abbrev pub ended : List ℕ → List ℕ
ended piece = piece ++ 10 ∷ []

-- the text begins with these pieces, each ended by the first LF after it, and more is after them
pub record IsBegun (text : List ℕ) (pieces : List (List ℕ)) (more : List ℕ) : Type 0 where
  pub whole : text ≡ flat_map ended pieces ++ more
  pub in_line : IsTrue (list_all is_in_line pieces)
