-- The entries that numbers name, and their values.
use Rattle.std.specs.Prelude.{ℤ, List, [], Option, Some, None}
use Rattle.iges_fields.specs.declared.value.Value.{Value}
use Rattle.iges_directory.specs.declared.entry.Entry.{Entry}
use Rattle.iges_directory.specs.Named.{named_in}
use Rattle.iges_params.specs.Contents.{Contents}

abbrev pub kind_of : Entry × List Value → ℤ
kind_of r = r.0.kind

-- the entry that a number names, with its values
abbrev pub named : Contents → ℤ → Option (Entry × List Value)
named f number = named_in kind_of f.entries number

-- the values of an entry; none where there is no entry
abbrev pub record_values : Option (Entry × List Value) → List Value
record_values None = []
record_values (Some r) = r.1

abbrev pub values_of : Contents → ℤ → List Value
values_of f number = record_values (named f number)
