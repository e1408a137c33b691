use Rattle.spelled_solid.specs.Words.{AreWords, face_named}
use Rattle.spelled_solid.proofs.tables.keep_faces.Given as goal

abbrev pub invariant-faces : goal.invariant-faces
invariant-faces l = AreWords (face_named l.file) l.fn.words.items → AreWords (face_named l.file) l.words.items
