use Rattle.std.proofs.Common.{◌≡◌, ◌++◌, ◌-◌}
use Rattle.where_unjudged.proofs.Entities.{loose_from}
use Rattle.where_unjudged.proofs.loose.loose.Given as goal

abbrev pub invariant-entries : goal.invariant-entries
invariant-entries l = l.list ++ loose_from l.member l.file l.i (l.count - l.i) ≡ loose_from l.member l.file 0 l.count
