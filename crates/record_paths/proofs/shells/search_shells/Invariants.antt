use Rattle.std.proofs.Common.{[], ◌∷◌, pos}
use Rattle.record_paths.specs.Paths.{sited_after, shells_sited}
use Rattle.record_paths.proofs.SearchSteps.{Serves, left_from}
use Rattle.record_paths.proofs.shells.search_shells.Given as goal

abbrev pub invariant-shells : goal.invariant-shells
invariant-shells l = let g = shells_sited l.file l.path (pos l.solid.0) in let all = l.listed.outer ∷ l.listed.voids in Serves (left_from g all l.i)
    (sited_after g [] all) l.name
