use Rattle.std.proofs.Common.{◌≡◌, ◌<◌, ◌++◌, length, map}
use Rattle.shell_facts.specs.FanFacts.{by_turns, on_fan}
use Rattle.shell_facts.proofs.turning.push_fan.Given as goal

abbrev pub invariant-turns : goal.invariant-turns
invariant-turns l = record {
  inside : l.row < length l.paired.rows;
  told : l.out.items ++ map (on_fan l.fan) (by_turns l.paired l.left l.row) ≡ l.fn.out.items ++ map (on_fan l.fan) (by_turns l.paired l.count l.least);
}

abbrev pub decreases-turns : goal.decreases-turns
decreases-turns l = l.left
