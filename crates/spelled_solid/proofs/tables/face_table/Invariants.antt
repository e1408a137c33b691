use Rattle.spelled_solid.specs.Words.{AreWords, face_named}
use Rattle.spelled_solid.proofs.tables.face_table.Given as goal

abbrev pub invariant-shells : goal.invariant-shells
invariant-shells l = AreWords (face_named l.file) l.words.items
