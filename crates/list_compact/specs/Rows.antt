-- Private: rows that follow one another in one list.
use Rattle.std.specs.Prelude.{◌≡◌, ℕ, ◌-◌, ◌≤◌, ◌==◌, List, [], ◌∷◌, take, drop, slice_index_or, if◌then◌else◌}

-- the rows that end before these places, of which the first begins at place a
abbrev pub rows_from : {X : Type 0} → ℕ → List ℕ → List X → List (List X)
rows_from a [] xs = []
rows_from a (e ∷ es) xs = take (e - a) (drop a xs) ∷ rows_from e es xs

-- they rise from place a, and the last of them is place n
abbrev pub AreEnds : ℕ → List ℕ → ℕ → Type 0
AreEnds a [] n = a ≡ n
AreEnds a (e ∷ es) n = (a ≤ e) × AreEnds e es n

-- where row i begins
abbrev pub start_of : List ℕ → ℕ → ℕ
start_of ends i = if i == 0 then 0 else slice_index_or ends (i - 1) 0
