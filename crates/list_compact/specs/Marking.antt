-- Private: marks and ranks of the items of a file's lists, a row for each entry.
use Rattle.std.specs.Prelude.{◌≡◌, ℕ, suc, ◌+◌, ◌*◌, ◌<◌, ◌&&◌, Bool, true, false, if◌then◌else◌, ℤ, pos, List, [], ◌∷◌, length, map, flat_map, Some, slice_get}
use Rattle.std.specs.Prelude.{slice_index_or}
use Rattle.std.specs.List.{AllByRecursion, enumerate_from}
use Rattle.std.specs.Ordering.{int_eq}
use Rattle.brep_lists.specs.Record.{kind_of_type, IsRecordOf}
use Rattle.brep_lists.specs.declared.entity_kind.EntityKind.{EntityKind}
use Rattle.brep_lists.specs.declared.edge_list.EdgeTuple.{EdgeTuple}
use Rattle.iges_fields.specs.declared.value.Value.{Value}
use Rattle.iges_fields.specs.declared.value.Value.TheVariants as value
use Rattle.iges_params.specs.Contents.{Contents}
use Rattle.entry_references.specs.Refs.{Record}
use Rattle.list_compact.specs.Used.{edges_in, vertices_in, used_from, rank, is_used_edge, is_used_vertex}

-- a record of its kind, where it is of one of the six
abbrev pub IsOfItsKind : Record → Type 0
IsOfItsKind r = (kind : EntityKind) → kind_of_type r.0.kind ≡ Some kind → IsRecordOf kind r.1

abbrev pub HasType : Record → Type 0
HasType r = int_eq r.0.kind (pos 0) ≡ false

-- each entry has a type, and those of the six kinds are records of their kinds
pub record AreRecords (g : Contents) : Type 0 where
  pub typed : AllByRecursion HasType g.entries
  pub of_kind : AllByRecursion IsOfItsKind g.entries

-- The mark in each place of the row of an entry says whether the item is used. Entries are numbered 1, 3, 5 and so on, items from 1.
abbrev pub AreMarks : List (List Bool) → (ℕ → ℕ → Bool) → Type 0
AreMarks rows used = (k i : ℕ) (row : List Bool) → slice_get rows k ≡ Some row → i < length row → slice_index_or row i false ≡ used (2 * k + 1) (i + 1)

-- each item is marked
abbrev pub AreAllMarked : List (List Bool) → Type 0
AreAllMarked rows = (k i : ℕ) (row : List Bool) → slice_get rows k ≡ Some row → i < length row → slice_index_or row i false ≡ true

-- the numbers name this item
abbrev pub is_at : ℤ → ℤ → ℕ → ℕ → Bool
is_at z j e i = int_eq z (pos e) && int_eq j (pos i)

-- the lengths of the rows
abbrev pub sizes : {X : Type 0} → List (List X) → List ℕ
sizes rows = map length rows

abbrev pub edge_sizes : Contents → List ℕ
edge_sizes g = map (λ (r : Record). length (edges_in r)) g.entries

abbrev pub vertex_sizes : Contents → List ℕ
vertex_sizes g = map (λ (r : Record). length (vertices_in r)) g.entries

-- The ranks of marked items, where so many were marked before, and 0 for the others.
abbrev pub ranks_of : ℕ → List Bool → List ℤ
ranks_of n [] = []
ranks_of n (true ∷ bs) = pos (suc n) ∷ ranks_of (suc n) bs
ranks_of n (false ∷ bs) = pos 0 ∷ ranks_of n bs

-- in each place of a used item its rank, and else 0
abbrev pub AreRanks : List (List ℤ) → (ℕ → ℕ → Bool) → Type 0
AreRanks rows used = (k i : ℕ) (row : List ℤ) → slice_get rows k ≡ Some row → i < length row
    → slice_index_or row i (pos 0) ≡ (if used (2 * k + 1) (i + 1) then pos (rank (used (2 * k + 1)) (i + 1)) else pos 0)

-- the item has a place in the rows
pub record HasPlace (rows : List (List ℤ)) (e j : ℕ) : Type 0 where
  pub entry : ℕ
  pub item : ℕ
  pub row : List ℤ
  pub is_entry : e ≡ 2 * entry + 1
  pub is_item : j ≡ item + 1
  pub there : slice_get rows entry ≡ Some row
  pub within : item < length row

-- each used item has one
abbrev pub Covers : List (List ℤ) → (ℕ → ℕ → Bool) → Type 0
Covers rows used = (e j : ℕ) → used e j ≡ true → HasPlace rows e j

-- the marks of one list
abbrev pub MarksItems : List Bool → (ℕ → Bool) → Type 0
MarksItems row used = (i : ℕ) → i < length row → slice_index_or row i false ≡ used (i + 1)

-- the edges of all entries that are used by this test
abbrev pub ends_by : (ℕ → ℕ → Bool) → Contents → List EdgeTuple
ends_by used g = flat_map (λ (p : ℕ × Record). used_from (used (2 * p.0 + 1)) 1 (edges_in p.1)) (enumerate_from 0 g.entries)

-- the number is in the place of an item that these name
pub record IsRankAt (rows : List (List ℤ)) (z j r : ℤ) : Type 0 where
  pub entry : ℕ
  pub item : ℕ
  pub row : List ℤ
  pub is_entry : z ≡ pos (2 * entry + 1)
  pub is_item : j ≡ pos (item + 1)
  pub there : slice_get rows entry ≡ Some row
  pub is : r ≡ slice_index_or row item (pos 0)

-- the ranks of the items of a file's lists
pub record IsEdgeTable (g : Contents) (rows : List (List ℤ)) : Type 0 where
  pub ranks : AreRanks rows (is_used_edge g)
  pub covers : Covers rows (is_used_edge g)

pub record IsVertexTable (g : Contents) (rows : List (List ℤ)) : Type 0 where
  pub ranks : AreRanks rows (is_used_vertex g)
  pub covers : Covers rows (is_used_vertex g)

pub record AreTables (g : Contents) (edges vertices : List (List ℤ)) : Type 0 where
  pub edges_are : IsEdgeTable g edges
  pub vertices_are : IsVertexTable g vertices

abbrev pub int_value : ℤ → Value
int_value z = value.Int z

-- the values of an edge
abbrev pub edge_spelled : EdgeTuple → List Value
edge_spelled e = value.Int e.curve ∷ value.Int e.start_list ∷ value.Int e.start_index ∷ value.Int e.end_list ∷ value.Int e.end_index ∷ []

-- and of a vertex
abbrev pub vertex_spelled : Value × Value × Value → List Value
vertex_spelled x = x.0 ∷ x.1 ∷ x.2 ∷ []
