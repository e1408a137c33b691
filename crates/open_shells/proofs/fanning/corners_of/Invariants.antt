use Rattle.std.proofs.Common.{◌++◌, List, drop}
use Rattle.std.specs.List.{AllZip}
use Rattle.edge_uses.proofs.FirstOf.{LeftIn}
use Rattle.open_certificate.specs.Sound.{IsFanned}
use Rattle.open_shells.specs.FanParts.{LiesAt}
use Rattle.open_certificate.specs.declared.parts.OpenCorner.{OpenCorner}
use Rattle.open_shells.proofs.fanning.corners_of.Given as goal

abbrev pub invariant-vertices : goal.invariant-vertices
invariant-vertices l = record {
  fanned : LeftIn (IsFanned l.mated) (drop l.i l.mated.vertices) l.mated.vertices;
  lie : (rest : List OpenCorner) → AllZip (LiesAt l.mated) (drop l.i l.mated.vertices) rest → AllZip (LiesAt l.mated) l.mated.vertices (l.corners ++ rest);
}
