use Rattle.spelled_solid.specs.Words.{AreWords, vertex_named}
use Rattle.spelled_solid.proofs.tables.vertex_table.Given as goal

abbrev pub invariant-vertices : goal.invariant-vertices
invariant-vertices l = AreWords (vertex_named l.file l.solid) l.words.items
