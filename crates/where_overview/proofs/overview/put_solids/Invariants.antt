use Rattle.std.proofs.Common.{◌≡◌, ◌++◌, drop, flat_map}
use Rattle.std.specs.Prelude.{zip}
use Rattle.where_overview.specs.Overview.{solid_paragraph}
use Rattle.where_overview.proofs.overview.put_solids.Given as goal

abbrev pub invariant-solids : goal.invariant-solids
invariant-solids l =
    l.out ++ flat_map (solid_paragraph l.placed) (zip (drop l.i l.solids) (drop l.i l.verdicts)) ≡ l.fn.out
    ++ flat_map (solid_paragraph l.placed) (zip l.solids l.verdicts)
