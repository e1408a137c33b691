use Rattle.std.proofs.Common.{◌≡◌, drop}
use Rattle.std.specs.List.{list_all}
use Rattle.entry_references.specs.Refs.{names_entry}
use Rattle.entry_references.proofs.numbers.name_entries.Given as goal

abbrev pub invariant-numbers : goal.invariant-numbers
invariant-numbers l = list_all (names_entry l.file) (drop l.number-index l.numbers) ≡ list_all (names_entry l.file) l.numbers
