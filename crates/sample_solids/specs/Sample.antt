-- The sample files: n times n squares on a ring of rings.
use Rattle.std.specs.Prelude.{ℕ, ◌+◌, ◌*◌, ◌%◌, List, [], ◌∷◌, ◌++◌, map, flat_map, replicate, pos, codes}
use Rattle.iges_fields.specs.declared.value.Value.{Value}
use Rattle.iges_fields.specs.declared.value.Value.TheVariants as value
use Rattle.iges_directory.specs.declared.entry.Entry.{Entry}
use Rattle.iges_params.specs.declared.global.Global26.{Global26}
use Rattle.iges_params.specs.Contents.{Contents}
use Rattle.solid_data.specs.Ring.{numbers_from}

-- ---- the squares

-- the pairs (i, j) of numbers below n, by i and then by j
abbrev pub squares : ℕ → List (ℕ × ℕ)
squares n = flat_map (λ i. map (λ j. (i, j)) (numbers_from 0 n)) (numbers_from 0 n)

-- the place of (i, j) among them, from 0, where both are taken modulo n
abbrev pub square : ℕ → ℕ → ℕ → ℕ
square n i j = i % n * n + j % n

-- the vertex at (i, j), the edge from there to (i, j + 1), and the edge from there to (i + 1, j), each in its list
abbrev pub vertex_index : ℕ → ℕ → ℕ → ℕ
vertex_index n i j = square n i j + 1

abbrev pub across_index : ℕ → ℕ → ℕ → ℕ
across_index n i j = 2 * square n i j + 1

abbrev pub up_index : ℕ → ℕ → ℕ → ℕ
up_index n i j = 2 * square n i j + 2

-- the entry of the face of the square at (i, j); its loop is the next entry
abbrev pub face_number : ℕ → ℕ → ℕ → ℕ
face_number n i j = 13 + 4 * square n i j

-- ---- the records, all values of which are integers

abbrev pub whole : ℕ → Value
whole n = value.Int (pos n)

-- an edge on curve 9 between vertices of list 5
abbrev pub edge_between : ℕ → ℕ → List ℕ
edge_between from to = 9 ∷ 5 ∷ from ∷ 5 ∷ to ∷ []

-- a use of an edge of list 7, without parameter curves
abbrev pub use_record : ℕ → ℕ → List ℕ
use_record index flag = 0 ∷ 7 ∷ index ∷ flag ∷ 0 ∷ []

abbrev pub face_listed : ℕ → ℕ × ℕ → List ℕ
face_listed n (i, j) = face_number n i j ∷ 1 ∷ []

abbrev pub vertex_listed : ℕ × ℕ → List ℕ
vertex_listed (i, j) = i ∷ j ∷ 0 ∷ []

abbrev pub edges_listed : ℕ → ℕ × ℕ → List ℕ
edges_listed n (i, j) =
    edge_between (vertex_index n i j) (vertex_index n i (j + 1)) ++ edge_between (vertex_index n i j) (vertex_index n (i + 1) j)

-- the faces, each with flag 1
abbrev pub shell_record : ℕ → List ℕ
shell_record n = n * n ∷ flat_map (face_listed n) (squares n)

-- a vertex at each (i, j, 0)
abbrev pub vertex_record : ℕ → List ℕ
vertex_record n = n * n ∷ flat_map vertex_listed (squares n)

-- the two edges of each square that begin at its own vertex
abbrev pub edge_record : ℕ → List ℕ
edge_record n = 2 * n * n ∷ flat_map (edges_listed n) (squares n)

-- a face on surface 11 with one loop, which is its outer one
abbrev pub face_record : ℕ → ℕ × ℕ → List ℕ
face_record n (i, j) = 11 ∷ 1 ∷ 1 ∷ (face_number n i j + 2) ∷ []

-- round the square at (i, j)
abbrev pub loop_record : ℕ → ℕ × ℕ → List ℕ
loop_record n (i, j) =
    4
    ∷ use_record (across_index n i j) 1
    ++ use_record (up_index n i (j + 1)) 1
    ++ use_record (across_index n (i + 1) j) 0
    ++ use_record (up_index n i j) 0

-- ---- the file

-- the fields of an entry of this type and form
abbrev pub plain : ℕ → ℕ → Entry
plain kind form = record {
  kind = pos kind;
  structure = pos 0;
  font = pos 0;
  level = pos 0;
  view = pos 0;
  matrix = pos 0;
  display = pos 0;
  weight = pos 0;
  colour = pos 0;
  form = pos form;
  subscript = pos 0;
  status = codes "00000000";
  label = codes "        ";
}

-- an entry of this type and form, with these integers
abbrev pub entry : ℕ → ℕ → List ℕ → Entry × List Value
entry kind form ns = (plain kind form, map whole ns)

-- the face of a square, and its loop
abbrev pub face_entries : ℕ → ℕ × ℕ → List (Entry × List Value)
face_entries n s = entry 510 1 (face_record n s) ∷ entry 508 1 (loop_record n s) ∷ []

-- the solid 1, its shell 3, the vertices 5 and the edges 7, a line 9 and a plane 11
abbrev pub first_entries : ℕ → List (Entry × List Value)
first_entries n =
    entry 186 0 (3 ∷ 1 ∷ 0 ∷ [])
    ∷ entry 514 1 (shell_record n)
    ∷ entry 502 1 (vertex_record n)
    ∷ entry 504 1 (edge_record n)
    ∷ entry 110 0 (0 ∷ 0 ∷ 0 ∷ 1 ∷ 0 ∷ 0 ∷ [])
    ∷ entry 108 0 (0 ∷ 0 ∷ 1 ∷ 0 ∷ 0 ∷ 0 ∷ 0 ∷ 0 ∷ 0 ∷ [])
    ∷ []

-- `sample` and 66 spaces
unfoldable pub start_line : List ℕ
start_line = codes "sample" ++ replicate 66 32

-- a comma, a semicolon and no values
abbrev pub no_values : Global26
no_values = record { delims = record { param = 44; end = 59 }; values = [] }

-- the sample of n: the first entries, and then the faces with their loops
unfoldable pub sample : ℕ → Contents
sample n = record { start = start_line ∷ []; global = no_values; entries = first_entries n ++ flat_map (face_entries n) (squares n) }
