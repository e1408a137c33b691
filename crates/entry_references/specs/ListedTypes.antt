-- Private: the types that extraction follows by the names that the code gives them.
use Rattle.std.specs.Prelude.{◌≡◌, List, Option, Some, None}
use Rattle.iges_fields.specs.declared.value.Value.{Value}
use Rattle.iges_directory.specs.declared.entry.Entry.{Entry}
use Rattle.brep_lists.specs.Record.{kind_of_type}
use Rattle.entry_references.specs.Layout.{Own, layout_of, own_in}
use Rattle.entry_references.specs.Refs.{own_of_kind}
use Rattle.entry_references.specs.Rows.{layout_of_row}
use Rattle.entry_references.specs.declared.listed.ListedType.{ListedType}
use Rattle.entry_references.specs.declared.listed.ListedType.TheVariants as listed

-- the entry is of this type
abbrev pub IsTypeOf : Entry → ListedType → Type 0
IsTypeOf e (listed.Solid kind) = kind_of_type e.kind ≡ Some kind
IsTypeOf e (listed.Other layout) = (kind_of_type e.kind ≡ None) × (layout_of e ≡ Some (layout_of_row layout))

-- the own values of a record of this type, where they are those of the type
abbrev pub own_by_type : ListedType → List Value → Option Own
own_by_type (listed.Solid kind) values = own_of_kind kind values
own_by_type (listed.Other layout) values = own_in (layout_of_row layout) values
