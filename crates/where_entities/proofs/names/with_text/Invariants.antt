use Rattle.std.proofs.Common.{◌≡◌, ◌++◌, drop, filter}
use Rattle.where_entities.specs.Facts.{has_text}
use Rattle.where_entities.proofs.names.with_text.Given as goal

abbrev pub invariant-names : goal.invariant-names
invariant-names l = l.told ++ filter (has_text l.file) (drop l.name-index l.names) ≡ filter (has_text l.file) l.names
