use Rattle.std.proofs.Common.{◌≡◌, ◌++◌, drop}
use Rattle.std.specs.Prelude.{flat_map}
use Rattle.record_numbers.specs.Marked.{HaveNumbers, part_key}
use Rattle.record_numbers.specs.Parts.{said_all}
use Rattle.record_numbers.proofs.key.put_parts.Given as goal

abbrev pub invariant-parts : goal.invariant-parts
invariant-parts l = record {
  numbers : HaveNumbers l.marks (said_all (drop l.part-index l.parts)) → HaveNumbers l.marks (said_all l.parts);
  text : l.text.items ++ flat_map (part_key l.marks) (said_all (drop l.part-index l.parts)) ≡ l.fn.text.items ++ flat_map (part_key l.marks) (said_all l.parts);
}
