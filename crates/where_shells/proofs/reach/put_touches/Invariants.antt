use Rattle.std.proofs.Common.{◌≡◌, ◌++◌, drop, flat_map}
use Rattle.std.specs.Prelude.{codes}
use Rattle.where_shells.specs.Lines.{vertex_line}
use Rattle.where_shells.proofs.reach.put_touches.Given as goal

abbrev pub invariant-vertices : goal.invariant-vertices
invariant-vertices l = l.out ++ flat_map (vertex_line (codes "  touches") l.view.file.now l.view.solid.now) (drop l.i l.vertices) ≡ l.fn.out
    ++ flat_map (vertex_line (codes "  touches") l.view.file.now l.view.solid.now) l.vertices
