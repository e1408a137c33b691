-- The words for what is due at a place of a record.
use Rattle.std.specs.Prelude.{ℕ, List, codes}
use Rattle.brep_lists.specs.declared.entity_kind.EntityKind.{EntityKind}
use Rattle.brep_lists.specs.declared.entity_kind.EntityKind.TheVariants.{Solid as solid, Shell as shell, Face as face, Loop as «loop», EdgeList as edges}
use Rattle.brep_lists.specs.declared.entity_kind.EntityKind.TheVariants.{VertexList as vertices}
use Rattle.record_values.specs.declared.due.Due.{Due}
use Rattle.record_values.specs.declared.due.Due.TheVariants as due
use Rattle.record_values.specs.declared.due.ValueKind.{ValueKind}
use Rattle.record_values.specs.declared.due.ValueKind.TheVariants as slot

-- the entity and the forms of which one is due
abbrev pub kind_word : EntityKind → List ℕ
kind_word solid = codes "solid form 0"
kind_word shell = codes "shell form 1"
kind_word face = codes "face form 0 1"
kind_word «loop» = codes "loop form 0 1"
kind_word edges = codes "edge-list form 0 1"
kind_word vertices = codes "vertex-list form 0 1"

abbrev pub slot_word : ValueKind → List ℕ
slot_word slot.Pointer = codes "pointer"
slot_word slot.Index = codes "index"
slot_word slot.Flag = codes "flag"
slot_word slot.Type = codes "type"
slot_word slot.Coordinate = codes "coordinate"

abbrev pub due_word : Due → List ℕ
due_word (due.Record kind) = kind_word kind
due_word due.Geometry = codes "geometry"
due_word (due.Single slot) = slot_word slot
due_word due.Count = codes "count"
due_word due.CountOrPointer = codes "count-or-pointer"
