use Rattle.std.proofs.Common.{◌≡◌, ◌++◌, drop, flat_map}
use Rattle.remedy_text.specs.Lines.{renew_item}
use Rattle.remedy_text.proofs.edge_steps.put_each_renewed.Given as goal

abbrev pub invariant-edges : goal.invariant-edges
invariant-edges l = l.out ++ flat_map (renew_item l.view.file.now l.view.solid.now l.vertices) (drop l.i l.edges) ≡ l.fn.out ++ flat_map (renew_item l.view.file.now l.view.solid.now l.vertices) l.edges
