use Rattle.std.proofs.Common.{◌≡◌, drop}
use Rattle.iges_params.specs.Contents.{Contents}
use Rattle.where_unjudged.specs.Counts.{AreTypeCounts}
use Rattle.where_unjudged.specs.Hints.{has_some}
use Rattle.where_unjudged.proofs.hints.has_some.Given as goal

abbrev pub invariant-types : goal.invariant-types
invariant-types l = (f : Contents) → AreTypeCounts f l.counts → has_some f (drop l.i l.types) ≡ has_some f l.types
