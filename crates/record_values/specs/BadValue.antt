-- Which value of a record is the bad one at a failing place, and what is due there. Places of values count from 0, those of items from 1.
use Rattle.std.specs.Prelude.{ℕ, ◌+◌, ◌-◌, ◌*◌, nat_lt, nat_le, ◌==◌, ◌&&◌, ◌||◌, not, Bool, true, false, if◌then◌else◌, ℤ, pos, negsuc, List, length, take}
use Rattle.std.specs.Prelude.{sum_by, Option, Some, None, slice_get, unwrap_or, option_map}
use Rattle.std.specs.List.{position_from}
use Rattle.std.specs.Option.{is_some, is_none}
use Rattle.std.specs.Ordering.{int_eq}
use Rattle.iges_fields.specs.declared.value.Value.{Value}
use Rattle.iges_directory.specs.declared.entry.Entry.{Entry}
use Rattle.iges_params.specs.Contents.{Contents}
use Rattle.iges_params.specs.Named.{named, values_of}
use Rattle.brep_lists.specs.Record.{kind_of_type, LoopTuple, count_at}
use Rattle.brep_lists.specs.declared.entity_kind.EntityKind.{EntityKind}
use Rattle.brep_lists.specs.declared.entity_kind.EntityKind.TheVariants.{Solid as solid, Shell as shell, Face as face, Loop as «loop», EdgeList as edges}
use Rattle.brep_lists.specs.declared.entity_kind.EntityKind.TheVariants.{VertexList as vertices}
use Rattle.brep_lists.specs.declared.edge_list.EdgeTuple.{EdgeTuple}
use Rattle.solid_data.specs.declared.verdict.Rule.{Rule}
use Rattle.solid_data.specs.declared.verdict.Rule.TheVariants as rule
use Rattle.solid_data.specs.declared.verdict.Failing.{Failing}
use Rattle.record_values.specs.declared.bad_values.BadValue.{BadValue}
use Rattle.record_values.specs.declared.due.Due.{Due}
use Rattle.record_values.specs.declared.due.Due.TheVariants as due
use Rattle.record_values.specs.declared.misfit.Misfit.{Misfit}
use Rattle.record_values.specs.Expected.{first_misfit}
use Rattle.record_values.specs.Told.{told_in}

-- ---- what numbers name

-- the entry that a number names
abbrev pub entry_at : Contents → ℤ → Option Entry
entry_at f z = option_map (λ (e : Entry × List Value). e.0) (named f z)

-- the kind of record that its type has
abbrev pub kind_in : Option Entry → Option EntityKind
kind_in None = None
kind_in (Some e) = kind_of_type e.kind

-- it is an entry, and none of the six
abbrev pub is_geometry : Option Entry → Bool
is_geometry None = false
is_geometry (Some e) = is_none (kind_of_type e.kind)

-- it is a vertex list, of a form that is due
abbrev pub is_vertex_list : Option Entry → Bool
is_vertex_list None = false
is_vertex_list (Some e) = int_eq e.kind (pos 502) && (int_eq e.form (pos 0) || int_eq e.form (pos 1))

abbrev pub names_geometry : Contents → ℤ → Bool
names_geometry f z = is_geometry (entry_at f z)

-- how many items the list has that a number names
abbrev pub item_count : Contents → ℤ → ℕ
item_count f z = count_at (values_of f z) 0

abbrev pub is_index : ℤ → ℕ → Bool
is_index (pos k) n = nat_lt 0 k && nat_le k n
is_index (negsuc k) n = false

-- ---- bad values

-- no value is named
abbrev pub no_value : Option Due → BadValue
no_value d = record { place = None; due = d }

abbrev pub value_at : ℕ → Option Due → BadValue
value_at place d = record { place = Some place; due = d }

-- what is due where a number must name an entry of this kind
abbrev pub due_of : Rule → EntityKind → Option Due
due_of rule.NoEntry k = Some (due.Record k)
due_of rule.WrongKind k = Some (due.Record k)
due_of rule.BadGeometry k = Some due.Geometry
due_of _ k = None

-- how many values a tuple of a loop takes
abbrev pub tuple_size : LoopTuple → ℕ
tuple_size t = 5 + 2 * length t.curves

-- the place of the first value of the i-th tuple, from 0
abbrev pub tuple_place : List LoopTuple → ℕ → ℕ
tuple_place ts i = 1 + sum_by tuple_size (take i ts)

-- the first curve of a tuple that isn't one, from 0
abbrev pub bad_curve : Contents → LoopTuple → ℕ
bad_curve f t = unwrap_or (position_from (λ (c : Bool × ℤ). not (names_geometry f c.1)) 0 t.curves) 0

-- in the tuple that begins at a place: a curve, the index or the list
abbrev pub in_tuple : Contents → Rule → ℕ → Option LoopTuple → BadValue
in_tuple f r at None = no_value None
in_tuple f rule.BadGeometry at (Some t) = value_at (at + 6 + 2 * bad_curve f t) (Some due.Geometry)
in_tuple f rule.BadIndex at (Some t) = value_at (at + 2) None
in_tuple f r at (Some t) = value_at (at + 1) (due_of r (if t.is_vertex then vertices else edges))

-- in the i-th tuple of a loop, from 0
abbrev pub in_tuples : Contents → Rule → ℕ → Option (List LoopTuple) → BadValue
in_tuples f r i None = no_value None
in_tuples f r i (Some ts) = in_tuple f r (tuple_place ts i) (slice_get ts i)

-- In the edge that begins at a place: the curve, or the start's list or index where it breaks the rule, else the end's.
abbrev pub in_edge : Contents → Rule → ℕ → Option EdgeTuple → BadValue
in_edge f r at None = no_value None
in_edge f rule.BadGeometry at (Some e) = value_at at (Some due.Geometry)
in_edge f rule.NoEntry at (Some e) = value_at (if is_some (entry_at f e.start_list) then at + 3 else at + 1) (Some (due.Record vertices))
in_edge f rule.WrongKind at (Some e) = value_at (if is_vertex_list (entry_at f e.start_list) then at + 3 else at + 1) (Some (due.Record vertices))
in_edge f rule.BadIndex at (Some e) = value_at (if is_index e.start_index (item_count f e.start_list) then at + 4 else at + 2) None
in_edge f _ at (Some e) = no_value None

-- in the i-th edge of a list, from 0
abbrev pub in_edges : Contents → Rule → ℕ → Option (List EdgeTuple) → BadValue
in_edges f r i None = no_value None
in_edges f r i (Some es) = in_edge f r (1 + 5 * i) (slice_get es i)

-- at an item of a record of this kind; that of a face with number 0 is its surface
abbrev pub in_record : Contents → Rule → ℕ → List Value → EntityKind → BadValue
in_record f r item vs solid = value_at (if nat_lt item 2 then 0 else 2 * item - 1) (due_of r shell)
in_record f r item vs shell = value_at (2 * item - 1) (due_of r face)
in_record f r item vs face = value_at (if item == 0 then 0 else item + 2) (due_of r «loop»)
in_record f r item vs «loop» = in_tuples f r (item - 1) (told_in «loop» vs)
in_record f r item vs edges = in_edges f r (item - 1) (told_in edges vs)
in_record f r item vs vertices = no_value None

abbrev pub at_misfit : Misfit → BadValue
at_misfit m = value_at m.place (Some m.due)

abbrev pub by_rule : Contents → Rule → ℕ → List Value → EntityKind → BadValue
by_rule f rule.BadLayout item vs k = at_misfit (first_misfit k vs)
by_rule f r item vs k = in_record f r item vs k

-- at an item of the record of an entity
abbrev pub in_entity : Contents → Failing → Option EntityKind → BadValue
in_entity f x None = no_value None
in_entity f x (Some k) = by_rule f x.rule x.place (values_of f (pos x.entity.0)) k

abbrev pub speaks_of_entry : Rule → Bool
speaks_of_entry rule.NoEntry = true
speaks_of_entry rule.WrongKind = true
speaks_of_entry _ = false

-- the number itself is judged, and no value of a record
abbrev pub is_of_number : Failing → Bool
is_of_number x = x.place == 0 && speaks_of_entry x.rule

-- The bad value where this fails.
unfoldable pub bad_value : Contents → Failing → BadValue
bad_value f x = if is_of_number x then no_value (Some (due.Record solid)) else in_entity f x (kind_in (entry_at f (pos x.entity.0)))
