use Rattle.std.proofs.Common.{◌≡◌, ◌++◌, flat_map, drop}
use Rattle.iges_params.specs.Contents.{Contents}
use Rattle.where_unjudged.specs.Counts.{AreTypeCounts}
use Rattle.where_unjudged.specs.Lines.{type_line}
use Rattle.where_unjudged.proofs.lines.put_types.Given as goal

abbrev pub invariant-types : goal.invariant-types
invariant-types l = (f : Contents) → AreTypeCounts f l.counts
    → l.out ++ flat_map (type_line f) (drop l.i l.types) ≡ l.fn.out ++ flat_map (type_line f) l.types
