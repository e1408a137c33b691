-- Private: how many items a record lists.
use Rattle.std.specs.Prelude.{ℕ, length}
use Rattle.brep_lists.specs.Record.{Items}
use Rattle.brep_lists.specs.declared.entity_kind.EntityKind.{EntityKind}
use Rattle.brep_lists.specs.declared.entity_kind.EntityKind.TheVariants.{Solid as solid, Shell as shell, Face as face, Loop as «loop», EdgeList as edges}
use Rattle.brep_lists.specs.declared.entity_kind.EntityKind.TheVariants.{VertexList as vertices}

-- the voids of a solid, and of each other record all its items
abbrev pub item_count : (kind : EntityKind) → Items kind → ℕ
item_count solid s = length s.voids
item_count shell faces = length faces
item_count face f = length f.loops
item_count «loop» tuples = length tuples
item_count edges tuples = length tuples
item_count vertices triples = length triples
