use Rattle.std.proofs.Common.{◌≡◌, ◌++◌, flat_map, drop}
use Rattle.where_entities.specs.Facts.{name_fact}
use Rattle.where_entities.proofs.names.put_each.Given as goal

abbrev pub invariant-names : goal.invariant-names
invariant-names l = l.out ++ flat_map (name_fact l.file) (drop l.name-index l.names) ≡ l.fn.out ++ flat_map (name_fact l.file) l.names
