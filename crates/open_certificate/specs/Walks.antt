-- Private: the rows of path lines and of border lines.
use Rattle.std.specs.Prelude.{ℕ, ◌<◌, List, [], ◌∷◌, ◌++◌, Contains}
use Rattle.std.specs.List.{AllByRecursion, AllZip}
use Rattle.edge_uses.specs.ShellRows.{ShellRows}
use Rattle.open_certificate.specs.Progress.{OpenProgress, GoesOnTo, FitsPath, FitsBorder}

-- A path line of these rows fits.
abbrev pub FitsPathLine : ShellRows → OpenProgress → List ℕ → Type 0
FitsPathLine d at [] = ⊥
FitsPathLine d at (r ∷ rs) = FitsPath d at r rs

-- A border line of these rows fits.
abbrev pub FitsBorderLine : ShellRows → OpenProgress → List ℕ → Type 0
FitsBorderLine d at [] = ⊥
FitsBorderLine d at (r ∷ rs) = FitsBorder d at r rs

-- From r on each row is one of these, and goes on to the next, and the last to the first; all after r are greater than the first.
abbrev pub IsBorderRing : ShellRows → List ℕ → ℕ → ℕ → List ℕ → Type 0
IsBorderRing d lone first r rs = AllByRecursion (Contains lone) (r ∷ rs) × AllZip (GoesOnTo d) (r ∷ rs) (rs ++ first ∷ []) × AllByRecursion (λ x. first < x) rs
