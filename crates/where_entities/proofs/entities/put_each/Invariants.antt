use Rattle.std.proofs.Common.{◌≡◌, ◌++◌, flat_map, drop}
use Rattle.where_entities.specs.Entities.{entity_text}
use Rattle.where_entities.proofs.entities.put_each.Given as goal

abbrev pub invariant-entities : goal.invariant-entities
invariant-entities l = l.out ++ flat_map (entity_text l.placed) (drop l.no-index l.list) ≡ l.fn.out ++ flat_map (entity_text l.placed) l.list
