use Rattle.std.proofs.Common.{◌≡◌, ◌++◌, drop, flat_map}
use Rattle.shell_facts.specs.FanFacts.{alone_numbered}
use Rattle.shell_facts.proofs.turning.push_alone.Given as goal

abbrev pub invariant-points : goal.invariant-points
invariant-points l = l.out.items ++ flat_map (alone_numbered l.rows) (drop l.i l.points) ≡ l.fn.out.items ++ flat_map (alone_numbered l.rows) l.points
