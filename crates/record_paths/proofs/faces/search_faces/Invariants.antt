use Rattle.std.proofs.Common.{[], ℤ, List, pos}
use Rattle.record_paths.specs.Paths.{sited_after, faces_sited}
use Rattle.record_paths.proofs.SearchSteps.{Serves, left_from}
use Rattle.record_paths.proofs.faces.search_faces.Given as goal

abbrev pub invariant-faces : goal.invariant-faces
invariant-faces l = (used : List ℤ) → let g = faces_sited l.file l.path (pos l.shell.0) used in Serves (left_from g l.listed l.i) (sited_after g [] l.listed)
    l.name
