use Rattle.std.proofs.Common.{◌≡◌, ◌≤◌, ◌+◌, drop, length}
use Rattle.solid_data.specs.SolidData.{occurring}
use Rattle.shell_facts.proofs.parting.unpaired_among.Given as goal

abbrev pub invariant-edges : goal.invariant-edges
invariant-edges l = record {
  count : l.count + length (occurring (drop l.i l.edges) l.unpaired) ≡ length (occurring l.edges l.unpaired);
  few : l.count ≤ l.i;
}
