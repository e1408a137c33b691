use Rattle.std.proofs.Common.{drop}
use Rattle.record_numbers.specs.Marked.{NamesEndless}
use Rattle.record_numbers.specs.Parts.{said_all}
use Rattle.record_numbers.proofs.numbering.names_endless.Given as goal

abbrev pub invariant-parts : goal.invariant-parts
invariant-parts l = NamesEndless l.marks (said_all (drop l.part-index l.parts)) → NamesEndless l.marks (said_all l.parts)
