-- Private: numbers that are read in order of appearance.
use Rattle.std.specs.Prelude.{◌≡◌, ℕ, ◌+◌, ◌==◌, nat_lt, List, [], ◌∷◌, Option, Some, None, if◌then◌else◌}
use Rattle.solid_data.specs.declared.solid.VertexKey.{VertexKey}

-- how many numbers have appeared with one more, if so many had before; None where a lesser number hasn't appeared
abbrev pub appeared_with : ℕ → ℕ → Option ℕ
appeared_with count n = if n == count then Some (count + 1) else (if nat_lt n count then Some count else None)

abbrev pub read_on : (ℕ → Option ℕ) → Option ℕ → Option ℕ
read_on next None = None
read_on next (Some count) = next count

-- the same with some more
abbrev pub appeared : List ℕ → ℕ → Option ℕ
appeared [] count = Some count
appeared (n ∷ ns) count = read_on (appeared ns) (appeared_with count n)

-- the key of a vertex with this number, in a list of its own
abbrev pub own_key : ℕ → VertexKey
own_key n = record { «list» = record { 0 = 1 }; index = n + 1 }

-- The numbers of the items are these: the least one, and so on.
abbrev pub Climbs : {A : Type 0} → (A → ℕ) → ℕ → List A → Type 0
Climbs number least [] = Unit {0}
Climbs number least (x ∷ xs) = (number x ≡ least) × Climbs number (least + 1) xs
