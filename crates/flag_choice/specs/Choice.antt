-- Which of the two lists of flags that fit a shell is chosen: each is the reverse of the other.
use Rattle.std.specs.Prelude.{ℕ, ◌+◌, ◌==◌, ◌&&◌, ◌||◌, nat_lt, Bool, true, false, not, List, [], ◌∷◌, map, if◌then◌else◌}
use Rattle.std.specs.List.{list_all}

-- the flags, each turned round
abbrev pub reversed : List Bool → List Bool
reversed flags = map not flags

abbrev pub change : Bool → Bool → ℕ
change true true = 0
change true false = 1
change false true = 1
change false false = 0

-- how many of the faces' own flags change
unfoldable pub changes : List Bool → List Bool → ℕ
changes [] flags = 0
changes (own ∷ owns) [] = 0
changes (own ∷ owns) (flag ∷ flags) = change own flag + changes owns flags

-- all flags are 1
abbrev pub all_set : List Bool → Bool
all_set flags = list_all (λ flag. flag) flags

-- Of a list that fits, its reverse is chosen: where the list isn't that of the own flags and isn't all 1, and the reverse is all 1 or changes fewer faces.
unfoldable pub is_turned : List Bool → List Bool → Bool
is_turned own kept =
    not (changes own kept == 0) && not (all_set kept) && (all_set (reversed kept) || nat_lt (changes own (reversed kept)) (changes own kept))

-- The own flags if they fit; else those that are all 1, if such fit; else those that change fewer faces; else those in which the first face keeps its
-- flag. The list that is given fits, and in it the first face keeps its flag.
unfoldable pub chosen : List Bool → List Bool → List Bool
chosen own kept = if is_turned own kept then reversed kept else kept
