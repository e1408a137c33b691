-- Private: what a walk has kept so far is true of the file.
use Rattle.std.specs.Prelude.{◌≡◌}
use Rattle.iges_params.specs.Contents.{Contents}
use Rattle.brep_numbering.specs.Numbered.{Numbered}
use Rattle.brep_walk.specs.Numbered.{AreEdges, AreKnownEdges}

-- lists is the file whose lists the walk looks at
pub record Stands (f : Contents) (lists : Contents) (numbered : Numbered) : Type 0 where
  pub file : lists ≡ f
  pub edges : AreEdges f numbered
  pub known : AreKnownEdges f numbered.keys
