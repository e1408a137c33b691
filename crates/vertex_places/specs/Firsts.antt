-- Private: the first place of each key, among the first n of a list.
use Rattle.std.specs.Prelude.{◌≡◌, ℕ, nat_lt, Bool, List, map, Option, Some, None, if◌then◌else◌}
use Rattle.std.specs.BTreeMap.{BTreeMap, get_by}
use Rattle.std.specs.Cmp.Lexicographic.{slice_cmp}
use Rattle.std.specs.Ordering.{is_eq, nat_cmp}
use Rattle.std.specs.declared.vec.Vec.{Vec}
use Rattle.iges_params.specs.Contents.{Contents}
use Rattle.equal_values.specs.Keys.{keys_of}
use Rattle.solid_data.specs.Ring.{place_of}
use Rattle.solid_data.specs.declared.solid.VertexKey.{VertexKey}
use Rattle.vertex_places.specs.Places.{coordinates}

abbrev pub place_key : Contents → VertexKey → List ℕ
place_key f vertex = keys_of (coordinates f vertex)

abbrev pub place_keys : Contents → List VertexKey → List (List ℕ)
place_keys f vertices = map (place_key f) vertices

abbrev pub same_key : List ℕ → List ℕ → Bool
same_key a b = is_eq (slice_cmp nat_cmp a b)

-- for each of some keys the place of the first that is the same
abbrev pub firsts_of : List (List ℕ) → List ℕ
firsts_of keys = map (place_of same_key keys) keys

abbrev pub first_below : List (List ℕ) → ℕ → List ℕ → Option ℕ
first_below keys n key = if nat_lt (place_of same_key keys key) n then Some (place_of same_key keys key) else None

abbrev pub AreFirsts : {Z : Type 0} → List (List ℕ) → ℕ → BTreeMap (Vec ℕ Z) ℕ → Type 0
AreFirsts {Z} keys n firsts = (q : Vec ℕ Z) → get_by (λ k. slice_cmp nat_cmp q.items k.items) firsts ≡ first_below keys n q.items
