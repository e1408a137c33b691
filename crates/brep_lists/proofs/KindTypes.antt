-- The kinds of entities by their types.
use Rattle.std.specs.Prelude.{◌≡◌, Some}
use Rattle.std.proofs.Common.{refl}
use Rattle.brep_lists.specs.Record.{type_number, kind_of_type}
use Rattle.brep_lists.specs.declared.entity_kind.EntityKind.{EntityKind}
use Rattle.brep_lists.specs.declared.entity_kind.EntityKind.TheVariants.{Solid as solid, Shell as shell, Face as face, Loop as «loop», EdgeList as edges}
use Rattle.brep_lists.specs.declared.entity_kind.EntityKind.TheVariants.{VertexList as vertices}

-- the number of a kind's type is of that kind
pub kind_known : (k : EntityKind) → kind_of_type (type_number k) ≡ Some k
kind_known solid = refl
kind_known shell = refl
kind_known face = refl
kind_known «loop» = refl
kind_known edges = refl
kind_known vertices = refl
