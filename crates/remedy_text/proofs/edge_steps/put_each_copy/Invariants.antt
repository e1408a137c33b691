use Rattle.std.proofs.Common.{◌≡◌, ◌++◌, drop, flat_map}
use Rattle.remedy_text.specs.Lines.{copy_item}
use Rattle.remedy_text.proofs.edge_steps.put_each_copy.Given as goal

abbrev pub invariant-vertices : goal.invariant-vertices
invariant-vertices l = l.out ++ flat_map (copy_item l.view.file.now l.view.solid.now) (drop l.i l.vertices) ≡ l.fn.out ++ flat_map (copy_item l.view.file.now l.view.solid.now) l.vertices
