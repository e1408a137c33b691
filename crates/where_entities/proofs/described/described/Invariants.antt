use Rattle.std.proofs.Common.{◌≡◌, ◌++◌, ◌-◌, map, filter}
use Rattle.solid_data.specs.Ring.{numbers_from}
use Rattle.where_entities.specs.Entities.{is_described, number_at}
use Rattle.where_entities.proofs.described.described.Given as goal

abbrev pub invariant-entries : goal.invariant-entries
invariant-entries l =
    l.list ++ filter (is_described l.file l.numbers) (map number_at (numbers_from l.i (l.count - l.i)))
    ≡ filter (is_described l.file l.numbers) (map number_at (numbers_from 0 l.count))
