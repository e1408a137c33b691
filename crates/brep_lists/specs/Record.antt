-- The records of a solid's entities: their items, how these are spelled, and how they are read.
use Rattle.std.specs.Prelude.{◌≡◌, ℕ, zero, suc, ◌+◌, ◌*◌, ◌==◌, Bool, false, ℤ, pos, negsuc, List, [], ◌∷◌, ◌++◌, length, map, flat_map, take, drop, ◌⊎◌}
use Rattle.std.specs.Prelude.{Option, find}
use Rattle.std.specs.Ordering.{int_eq}
use Rattle.iges_fields.specs.declared.value.Value.{Value}
use Rattle.iges_fields.specs.declared.value.Value.TheVariants.{Default, Int}
use Rattle.brep_lists.specs.DueValues.{DueValue, pointer, number, flag, at_least_one, count, coordinate, MeetsAll}
use Rattle.brep_lists.specs.declared.edge_list.EdgeTuple.{EdgeTuple}
use Rattle.brep_lists.specs.declared.entity_kind.EntityKind.{EntityKind}
use Rattle.brep_lists.specs.declared.entity_kind.EntityKind.TheVariants.{Solid as solid, Shell as shell, Face as face, Loop as «loop», EdgeList as edges}
use Rattle.brep_lists.specs.declared.entity_kind.EntityKind.TheVariants.{VertexList as vertices}

abbrev pub type_number : EntityKind → ℤ
type_number solid = pos 186
type_number shell = pos 514
type_number face = pos 510
type_number «loop» = pos 508
type_number edges = pos 504
type_number vertices = pos 502

-- the kind of a type, where it is one of the six
abbrev pub kind_of_type : ℤ → Option EntityKind
kind_of_type z = find (λ kind. int_eq z (type_number kind)) (solid ∷ shell ∷ face ∷ «loop» ∷ edges ∷ vertices ∷ [])

-- a closed shell has form 1, and elsewhere form 0 is read as 1
abbrev pub HasForm : EntityKind → ℤ → Type 0
HasForm solid form = form ≡ pos 0
HasForm shell form = form ≡ pos 1
HasForm _ form = (form ≡ pos 0) ⊎ (form ≡ pos 1)

-- a shell and its flag, for the outer shell and each void
pub record SolidItems : Type 0 where
  pub outer : ℤ × Bool
  pub voids : List (ℤ × Bool)

pub record FaceItems : Type 0 where
  pub surface : ℤ
  pub outer : Bool
  pub loops : List ℤ

-- a use of an edge or a vertex of a list, with the parameter curves and their flags
pub record LoopTuple : Type 0 where
  pub is_vertex : Bool
  pub «list» : ℤ
  pub index : ℤ
  pub flag : Bool
  pub curves : List (Bool × ℤ)

-- what the record of an entity describes
abbrev pub Items : EntityKind → Type 0
Items solid = SolidItems
Items shell = List (ℤ × Bool)
Items face = FaceItems
Items «loop» = List LoopTuple
Items edges = List EdgeTuple
Items vertices = List (Value × Value × Value)

abbrev pub pair_due : ℤ × Bool → List DueValue
pair_due p = pointer p.0 ∷ flag p.1 ∷ []

abbrev pub curve_due : Bool × ℤ → List DueValue
curve_due c = flag c.0 ∷ pointer c.1 ∷ []

abbrev pub tuple_due : LoopTuple → List DueValue
tuple_due t = flag t.is_vertex ∷ pointer t.list ∷ number t.index ∷ flag t.flag ∷ count (length t.curves) ∷ flat_map curve_due t.curves

abbrev pub edge_due : EdgeTuple → List DueValue
edge_due e = pointer e.curve ∷ pointer e.start_list ∷ number e.start_index ∷ pointer e.end_list ∷ number e.end_index ∷ []

abbrev pub vertex_due : Value × Value × Value → List DueValue
vertex_due v = coordinate v.0 ∷ coordinate v.1 ∷ coordinate v.2 ∷ []

-- what is due, value by value
abbrev pub due : (kind : EntityKind) → Items kind → List DueValue
due solid s = pair_due s.outer ++ (count (length s.voids) ∷ flat_map pair_due s.voids)
due shell faces = at_least_one (length faces) ∷ flat_map pair_due faces
due face f = pointer f.surface ∷ at_least_one (length f.loops) ∷ flag f.outer ∷ map pointer f.loops
due «loop» tuples = at_least_one (length tuples) ∷ flat_map tuple_due tuples
due edges tuples = at_least_one (length tuples) ∷ flat_map edge_due tuples
due vertices triples = at_least_one (length triples) ∷ flat_map vertex_due triples

-- the record has these items
abbrev pub Fits : (kind : EntityKind) → List Value → Items kind → Type 0
Fits kind values items = MeetsAll (due kind items) values

-- The reading: the items that are in the places of the layout, whatever the values are.

abbrev pub int_of : Value → ℤ
int_of (Int z) = z
int_of _ = pos 0

abbrev pub is_one : ℤ → Bool
is_one (pos n) = n == 1
is_one (negsuc n) = false

abbrev pub natural : ℤ → ℕ
natural (pos n) = n
natural (negsuc n) = 0

abbrev pub flag_of : Value → Bool
flag_of v = is_one (int_of v)

abbrev pub count_of : Value → ℕ
count_of v = natural (int_of v)

-- a value of the record, or a left-out one past its end
abbrev pub value_or_default : List Value → ℕ → Value
value_or_default [] i = Default
value_or_default (v ∷ vs) zero = v
value_or_default (v ∷ vs) (suc i) = value_or_default vs i

abbrev pub int_at : List Value → ℕ → ℤ
int_at vs i = int_of (value_or_default vs i)

abbrev pub flag_at : List Value → ℕ → Bool
flag_at vs i = flag_of (value_or_default vs i)

abbrev pub count_at : List Value → ℕ → ℕ
count_at vs i = count_of (value_or_default vs i)

-- n groups of size values each
abbrev pub groups : ℕ → ℕ → List Value → List (List Value)
groups size zero vs = []
groups size (suc n) vs = take size vs ∷ groups size n (drop size vs)

abbrev pub pair_read : List Value → ℤ × Bool
pair_read vs = (int_at vs 0, flag_at vs 1)

abbrev pub curve_read : List Value → Bool × ℤ
curve_read vs = (flag_at vs 0, int_at vs 1)

abbrev pub edge_read : List Value → EdgeTuple
edge_read vs = record { curve = int_at vs 0; start_list = int_at vs 1; start_index = int_at vs 2; end_list = int_at vs 3; end_index = int_at vs 4 }

abbrev pub tuple_read : List Value → LoopTuple
tuple_read vs = record {
  is_vertex = flag_at vs 0;
  «list» = int_at vs 1;
  index = int_at vs 2;
  flag = flag_at vs 3;
  curves =
      map curve_read (groups 2 (count_at vs 4) (drop 5 vs));
}

-- n tuples, each with its curves
abbrev pub tuples_read : ℕ → List Value → List LoopTuple
tuples_read zero vs = []
tuples_read (suc n) vs = tuple_read vs ∷ tuples_read n (drop (5 + 2 * count_at vs 4) vs)

abbrev pub items_of : (kind : EntityKind) → List Value → Items kind
items_of solid vs = record { outer = pair_read vs; voids = map pair_read (groups 2 (count_at vs 2) (drop 3 vs)) }
items_of shell vs = map pair_read (groups 2 (count_at vs 0) (drop 1 vs))
items_of face vs = record { surface = int_at vs 0; outer = flag_at vs 2; loops = map (λ g. int_at g 0) (groups 1 (count_at vs 1) (drop 3 vs)) }
items_of «loop» vs = tuples_read (count_at vs 0) (drop 1 vs)
items_of edges vs = map edge_read (groups 5 (count_at vs 0) (drop 1 vs))
items_of vertices vs = map (λ g. (value_or_default g 0, value_or_default g 1, value_or_default g 2)) (groups 3 (count_at vs 0) (drop 1 vs))

-- a record of that kind
abbrev pub IsRecordOf : EntityKind → List Value → Type 0
IsRecordOf kind values = Fits kind values (items_of kind values)

-- a record has no other items than those read
abbrev pub FitsOnlyRead : Type 0
FitsOnlyRead = (kind : EntityKind) (values : List Value) (items : Items kind) → Fits kind values items → items ≡ items_of kind values
