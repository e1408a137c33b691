use Rattle.std.proofs.Common.{◌≡◌, ◌≤◌, ◌+◌, ◌++◌, drop, flat_map}
use Rattle.shell_facts.specs.FanFacts.{fans_at, least_if, on_fans}
use Rattle.shell_facts.proofs.turning.push_fans.Given as goal

abbrev pub invariant-rows : goal.invariant-rows
invariant-rows l = record {
  few : l.fan ≤ 1 + l.i;
  told : l.out.items ++ on_fans l.paired l.leasts l.fan (flat_map (least_if l.leasts) (drop l.i l.rows)) ≡ l.fn.out.items
      ++ on_fans l.paired l.leasts 1 (fans_at l.paired l.leasts l.fn.vertex.0);
}
