-- The words that a caller gives as one text.
use Rattle.std.specs.Prelude.{◌≡◌, ◌==◌, ◌⊎◌, ℕ, List, [], IsUtf8}
use Rattle.std.specs.List.{slice_split}

-- what lies between the text's line feeds, or none where it is not UTF-8
abbrev pub AreWords : List ℕ → List (List ℕ) → Type 0
AreWords text words = (IsUtf8 text × (words ≡ slice_split (λ b. b == 10) text)) ⊎ ((¬ IsUtf8 text) × (words ≡ []))
