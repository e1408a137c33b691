-- What the records of solids and shells name.
use Rattle.std.specs.Prelude.{ℕ, ◌+◌, ◌*◌, Bool, ◌&&◌, ℤ, pos, List, [], ◌∷◌, if◌then◌else◌}
use Rattle.std.specs.Ordering.{int_eq}
use Rattle.iges_fields.specs.declared.value.Value.{Value}
use Rattle.brep_lists.specs.OwnValues.{is_record_of}
use Rattle.brep_lists.specs.Record.{items_of, type_number}
use Rattle.brep_lists.specs.declared.entity_kind.EntityKind.TheVariants.{Solid as solid, Shell as shell, Face as face}
use Rattle.where_unjudged.specs.declared.member.Member.{Member}
use Rattle.where_unjudged.specs.declared.member.Member.TheVariants as member

-- the type of such members
abbrev pub type_of_members : Member → ℤ
type_of_members member.Shell = type_number shell
type_of_members member.Face = type_number face

-- An entity of this type and form names such members: a solid, which has form 0, its shells, and a shell of any form its faces.
abbrev pub names_members : Member → ℤ → ℤ → Bool
names_members member.Shell kind form = int_eq kind (type_number solid) && int_eq form (pos 0)
names_members member.Face kind form = int_eq kind (type_number shell)

-- the members that its record names, each beside its flag; none where the record doesn't fit its type
abbrev pub members_in : Member → List Value → List (ℤ × Bool)
members_in member.Shell vs = if is_record_of solid vs then (items_of solid vs).outer ∷ (items_of solid vs).voids else []
members_in member.Face vs = if is_record_of shell vs then items_of shell vs else []

-- the member is the k-th entry, from 0
abbrev pub is_at : ℕ → ℤ × Bool → Bool
is_at k m = int_eq m.0 (pos (2 * k + 1))
