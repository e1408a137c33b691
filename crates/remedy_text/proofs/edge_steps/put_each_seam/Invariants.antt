use Rattle.std.proofs.Common.{◌≡◌, ◌++◌, drop, flat_map}
use Rattle.remedy_text.specs.Lines.{seam_item}
use Rattle.remedy_text.proofs.edge_steps.put_each_seam.Given as goal

abbrev pub invariant-seams : goal.invariant-seams
invariant-seams l = l.out ++ flat_map (seam_item l.view.solid.now) (drop l.i l.seams) ≡ l.fn.out ++ flat_map (seam_item l.view.solid.now) l.seams
