-- The records of a solid's entities keep their items in the extracted file, with each pointer renamed.
use Rattle.std.specs.Prelude.{◌≡◌, ℕ, Bool, ℤ, List, map, Some, Contains, pos}
use Rattle.iges_params.specs.Contents.{Contents}
use Rattle.iges_params.specs.Named.{named, values_of}
use Rattle.brep_lists.specs.Record.{LoopTuple, Items, kind_of_type, items_of, Fits, IsRecordOf}
use Rattle.brep_lists.specs.declared.entity_kind.EntityKind.{EntityKind}
use Rattle.brep_lists.specs.declared.entity_kind.EntityKind.TheVariants.{Solid as solid, Shell as shell, Face as face, Loop as «loop», EdgeList as edges}
use Rattle.brep_lists.specs.declared.entity_kind.EntityKind.TheVariants.{VertexList as vertices}
use Rattle.brep_lists.specs.declared.edge_list.EdgeTuple.{EdgeTuple}
use Rattle.entry_references.specs.Refs.{Record}
use Rattle.solid_extract.specs.Extracted.{renamed, new_values, new_number, new_record, IsExtracted}

abbrev pub renamed_pair : (ℤ → ℤ) → ℤ × Bool → ℤ × Bool
renamed_pair g p = (g p.0, p.1)

abbrev pub renamed_curve : (ℤ → ℤ) → Bool × ℤ → Bool × ℤ
renamed_curve g c = (c.0, g c.1)

abbrev pub renamed_tuple : (ℤ → ℤ) → LoopTuple → LoopTuple
renamed_tuple g t = record { is_vertex = t.is_vertex; «list» = g t.list; index = t.index; flag = t.flag; curves = map (renamed_curve g) t.curves }

abbrev pub renamed_edge : (ℤ → ℤ) → EdgeTuple → EdgeTuple
renamed_edge g e = record { curve = g e.curve; start_list = g e.start_list; start_index = e.start_index; end_list = g e.end_list; end_index = e.end_index }

-- the items with each pointer renamed
abbrev pub renamed_items : (ℤ → ℤ) → (kind : EntityKind) → Items kind → Items kind
renamed_items g solid s = record { outer = renamed_pair g s.outer; voids = map (renamed_pair g) s.voids }
renamed_items g shell faces = map (renamed_pair g) faces
renamed_items g face f = record { surface = g f.surface; outer = f.outer; loops = map g f.loops }
renamed_items g «loop» tuples = map (renamed_tuple g) tuples
renamed_items g edges tuples = map (renamed_edge g) tuples
renamed_items g vertices triples = triples

-- A record of one of the six kinds becomes one of that kind, with these items.
abbrev pub RecordsAreKept : Type 0
RecordsAreKept = (f : Contents) (kept : List ℕ) (r : Record) (kind : EntityKind) → kind_of_type r.0.kind ≡ Some kind → IsRecordOf kind r.1
    → Fits kind (new_values f kept r) (renamed_items (renamed kept) kind (items_of kind r.1))

-- A kept entry is named by its new number, as what it becomes.
abbrev pub KeptAreNamed : Type 0
KeptAreNamed = (f new : Contents) (n : ℕ) (x : IsExtracted f n new) (m : ℕ) (r : Record) → Contains x.kept m → named f (pos m) ≡ Some r
    → named new (pos (new_number x.kept m)) ≡ Some (new_record f x.kept r)

-- Where it is of one of the six kinds, it has the same items, with each pointer renamed.
abbrev pub ItemsAreKept : Type 0
ItemsAreKept = (f new : Contents) (n : ℕ) (x : IsExtracted f n new) (m : ℕ) (r : Record) (kind : EntityKind) → Contains x.kept m → named f (pos m) ≡ Some r
    → kind_of_type r.0.kind ≡ Some kind
    → IsRecordOf kind r.1 × IsRecordOf kind (values_of new (pos (new_number x.kept m)))
    × (items_of kind (values_of new (pos (new_number x.kept m))) ≡ renamed_items (renamed x.kept) kind (items_of kind r.1))
