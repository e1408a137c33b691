-- What the definitions say of a small file.
use Rattle.std.specs.Prelude.{◌≡◌, ℕ, false, pos, List, [], ◌∷◌, ◌++◌, map, codes}
use Rattle.std.proofs.Common.{refl}
use Rattle.iges_fields.specs.declared.value.Value.{Value}
use Rattle.iges_fields.specs.declared.value.Value.TheVariants as value
use Rattle.iges_params.specs.Contents.{Contents}
use Rattle.entry_references.specs.Refs.{Record}
use Rattle.list_compact.specs.Used.{rank, is_used_edge, is_used_vertex}
use Rattle.list_compact.specs.Dropped.{dropped}

abbrev ints : List ℕ → List Value
ints ns = map (λ n. value.Int (pos n)) ns

abbrev reals : List (List ℕ) → List Value
reals words = map (λ w. value.Real w) words

abbrev plain : ℕ → ℕ → List Value → Record
plain kind form values = (
  record {
    kind = pos kind;
    structure = pos 0;
    font = pos 0;
    level = pos 0;
    view = pos 0;
    matrix = pos 0;
    display = pos 0;
    weight = pos 0;
    colour = pos 0;
    form = pos form;
    subscript = pos 0;
    status = codes "00000000";
    label = codes "        ";
  },
  values,
)

abbrev file : List Record → Contents
file entries = record { start = []; global = record { delims = record { param = 44; end = 59 }; values = [] }; entries = entries }

-- A ball whose loop is vertex 2 of three. Of the three vertices that one alone is kept, as the first; the names behind it stay.
abbrev ball : Contents
ball = file (
    plain 186 0 (ints (3 ∷ 1 ∷ 0 ∷ [])) ∷
    plain 514 1 (ints (1 ∷ 5 ∷ 1 ∷ [])) ∷
    plain 510 1 (ints (11 ∷ 1 ∷ 1 ∷ 7 ∷ [])) ∷
    plain 508 1 (ints (1 ∷ 1 ∷ 9 ∷ 2 ∷ 1 ∷ 0 ∷ [])) ∷
    plain 502 1 (ints (3 ∷ [])
    ++ reals (codes "9." ∷ codes "9." ∷ codes "9." ∷ codes "0." ∷ codes "0." ∷ codes "1." ∷ codes "5." ∷ codes "5." ∷ codes "5." ∷ [])
    ++ ints (0 ∷ 1 ∷ 13 ∷ [])) ∷
    plain 108 0 (reals (codes "0." ∷ [])) ∷ []
    )

abbrev ball_dropped : Contents
ball_dropped = file (
    plain 186 0 (ints (3 ∷ 1 ∷ 0 ∷ [])) ∷
    plain 514 1 (ints (1 ∷ 5 ∷ 1 ∷ [])) ∷
    plain 510 1 (ints (11 ∷ 1 ∷ 1 ∷ 7 ∷ [])) ∷
    plain 508 1 (ints (1 ∷ 1 ∷ 9 ∷ 1 ∷ 1 ∷ 0 ∷ [])) ∷
    plain 502 1 (ints (1 ∷ []) ++ reals (codes "0." ∷ codes "0." ∷ codes "1." ∷ []) ++ ints (0 ∷ 1 ∷ 13 ∷ [])) ∷
    plain 108 0 (reals (codes "0." ∷ [])) ∷ []
    )

ball_is_dropped : dropped ball ≡ ball_dropped
unfolding dropped is_used_edge is_used_vertex
ball_is_dropped = refl

-- A loop that uses edge 2 of three in both directions. The edge goes from vertex 3 to vertex 2 of three; vertex 1 is the end of an edge that isn't used. A list
-- that nothing names stays whole, and so does an index past the end, and a last count that is left out.
abbrev sheet : Contents
sheet = file (
    plain 508 1 (ints (3 ∷ 0 ∷ 3 ∷ 2 ∷ 1 ∷ 1 ∷ 1 ∷ 9 ∷ 0 ∷ 3 ∷ 2 ∷ 0 ∷ 0 ∷ 0 ∷ 3 ∷ 4 ∷ 1 ∷ []) ++ value.Default ∷ []) ∷
    plain 504 1 (ints (3 ∷ 9 ∷ 5 ∷ 1 ∷ 5 ∷ 1 ∷ 9 ∷ 5 ∷ 3 ∷ 5 ∷ 2 ∷ 9 ∷ 5 ∷ 2 ∷ 5 ∷ 1 ∷ [])) ∷
    plain 502 1 (ints (3 ∷ [])
    ++ reals (codes "1." ∷ codes "1." ∷ codes "1." ∷ codes "2." ∷ codes "2." ∷ codes "2." ∷ codes "3." ∷ codes "3." ∷ codes "3." ∷ [])) ∷
    plain 504 1 (ints (1 ∷ 9 ∷ 5 ∷ 1 ∷ 5 ∷ 1 ∷ [])) ∷
    plain 110 0 [] ∷ []
    )

abbrev sheet_dropped : Contents
sheet_dropped = file (
    plain 508 1 (ints (3 ∷ 0 ∷ 3 ∷ 1 ∷ 1 ∷ 1 ∷ 1 ∷ 9 ∷ 0 ∷ 3 ∷ 1 ∷ 0 ∷ 0 ∷ 0 ∷ 3 ∷ 4 ∷ 1 ∷ []) ++ value.Default ∷ []) ∷
    plain 504 1 (ints (1 ∷ 9 ∷ 5 ∷ 2 ∷ 5 ∷ 1 ∷ [])) ∷
    plain 502 1 (ints (2 ∷ []) ++ reals (codes "2." ∷ codes "2." ∷ codes "2." ∷ codes "3." ∷ codes "3." ∷ codes "3." ∷ [])) ∷
    plain 504 1 (ints (1 ∷ 9 ∷ 5 ∷ 1 ∷ 5 ∷ 1 ∷ [])) ∷
    plain 110 0 [] ∷ []
    )

sheet_is_dropped : dropped sheet ≡ sheet_dropped
unfolding dropped is_used_edge is_used_vertex
sheet_is_dropped = refl

-- its edge 2 is the first that is used, and its vertex 3 the second
ranks_are : (rank (is_used_edge sheet 3) 2 ≡ 1) × (rank (is_used_vertex sheet 5) 3 ≡ 2) × (is_used_edge sheet 3 4 ≡ false) × (is_used_vertex sheet 5 1 ≡ false)
unfolding is_used_edge is_used_vertex
ranks_are = (refl, refl, refl, refl)
