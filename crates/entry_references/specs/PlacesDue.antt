-- Private: the places of pointers among required values.
use Rattle.std.specs.Prelude.{ℕ, zero, suc, ◌+◌, List, [], ◌++◌, map, filter_map}
use Rattle.std.specs.List.{enumerate_from}
use Rattle.brep_lists.specs.DueValues.{DueValue}
use Rattle.brep_lists.specs.OwnValues.{if_pointer}

-- those of what is due from a place on
abbrev pub places_due : ℕ → List DueValue → List ℕ
places_due first ds = filter_map if_pointer (enumerate_from first ds)

-- in so many groups of a size, each with pointers in the same places, counted from 0
abbrev pub group_places : ℕ → ℕ → ℕ → List ℕ → List ℕ
group_places first zero size pointers = []
group_places first (suc n) size pointers = map (λ k. first + k) pointers ++ group_places (first + size) n size pointers
