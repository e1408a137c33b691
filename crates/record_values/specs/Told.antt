-- What a record describes where it fits its type.
use Rattle.std.specs.Prelude.{List, Option, Some, None, if◌then◌else◌}
use Rattle.iges_fields.specs.declared.value.Value.{Value}
use Rattle.brep_lists.specs.Record.{Items, items_of}
use Rattle.brep_lists.specs.declared.entity_kind.EntityKind.{EntityKind}
use Rattle.brep_lists.specs.OwnValues.{is_record_of}

-- the items of a record that fits
abbrev pub told_in : (kind : EntityKind) → List Value → Option (Items kind)
told_in kind vs = if is_record_of kind vs then Some (items_of kind vs) else None
