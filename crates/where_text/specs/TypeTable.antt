-- Private: what a row of the table of types in the code means.
use Rattle.std.specs.Prelude.{ℕ, ℤ, List}
use Rattle.where_text.specs.declared.type_names.TypeName.{TypeName}

abbrev pub name_meant : TypeName → ℤ × List ℕ
name_meant row = (row.0, row.1.now)
