use Rattle.std.proofs.Common.{◌≡◌}
use Rattle.std.specs.List.{range_with_len}
use Rattle.entry_references.proofs.own.places_from.Given as goal

abbrev pub invariant-count : goal.invariant-count
invariant-count l = l.list ≡ range_with_len l.first l.i
