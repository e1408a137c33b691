use Rattle.std.proofs.Common.{[], ℤ, List, pos}
use Rattle.record_paths.specs.Paths.{sited_after, loops_sited}
use Rattle.record_paths.proofs.SearchSteps.{Serves, left_from}
use Rattle.record_paths.proofs.loops.search_loops.Given as goal

abbrev pub invariant-loops : goal.invariant-loops
invariant-loops l = (used : List ℤ) → let g = loops_sited l.file l.path (pos l.face.0) used in Serves (left_from g l.listed.loops l.i)
    (sited_after g [] l.listed.loops) l.name
