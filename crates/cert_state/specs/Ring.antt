-- Rows that turn to one another in a ring.
use Rattle.std.specs.Prelude.{◌≡◌, ℕ, ◌<◌, List, [], ◌∷◌, ◌++◌, length, ⊤}
use Rattle.std.specs.List.{AllByRecursion, AllZip}
use Rattle.edge_uses.specs.ShellRows.{ShellRows}
use Rattle.cert_text.specs.Text.{IsShort, spaced}
use Rattle.cert_state.specs.Progress.{Progress, TurnsTo, FitsCorner}

-- From r on each row turns to the next, and the last to the first; all after r are greater than the first.
abbrev pub IsRing : ShellRows → List (ℕ × ℕ) → ℕ → ℕ → List ℕ → Type 0
IsRing d pairs first r rs = AllZip (TurnsTo d pairs) (r ∷ rs) (rs ++ first ∷ []) × AllByRecursion (λ x. first < x) rs

-- A corner line of these rows fits.
abbrev pub FitsCornerLine : ShellRows → Progress → List ℕ → Type 0
FitsCornerLine d at [] = ⊥
FitsCornerLine d at (r ∷ rs) = FitsCorner d at r rs

-- no number follows here, nor anything else that a line may go on with
abbrev pub EndsNumbers : List ℕ → Type 0
EndsNumbers [] = ⊤
EndsNumbers (b ∷ bs) = b < 32

-- The text begins with these numbers, all there are, and this follows them.
pub record BeginsWithNumbers (text : List ℕ) (ns : List ℕ) (rest : List ℕ) : Type 0 where
  pub short : AllByRecursion IsShort ns
  pub ends : EndsNumbers rest
  pub text_is : text ≡ spaced ns ++ rest

-- the text begins with the numbers of a corner line, and this follows them
abbrev pub BeginsWithCorner : List ℕ → List ℕ → Type 0
BeginsWithCorner text rest = (rs : List ℕ) × BeginsWithNumbers text rs rest × (0 < length rs)
