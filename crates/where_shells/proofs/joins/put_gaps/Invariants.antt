use Rattle.std.proofs.Common.{◌≡◌, ◌++◌, drop, flat_map, map}
use Rattle.where_shells.specs.Join.{gap_face, gap_text}
use Rattle.where_shells.proofs.joins.put_gaps.Given as goal

abbrev pub invariant-gaps : goal.invariant-gaps
invariant-gaps l = record {
  text : l.page.out ++ flat_map (gap_text l.view.file.now l.view.solid.now l.faces) (drop l.i l.gaps) ≡ l.fn.page.out
      ++ flat_map (gap_text l.view.file.now l.view.solid.now l.faces) l.gaps;
  named : l.page.named ++ map (gap_face l.faces) (drop l.i l.gaps) ≡ l.fn.page.named ++ map (gap_face l.faces) l.gaps;
}
