use Rattle.std.proofs.Common.{sym, ap, subst, length}
use Rattle.solid_data.specs.declared.solid.FaceUse.{FaceUse}
use Rattle.edge_uses.specs.declared.building.Built.{Built}
use Rattle.edge_uses.specs.ShellRows.{AreRows}
use Rattle.edge_uses.proofs.Made.{rows_made, edges_made, vertices_made}
use Rattle.edge_uses.proofs.table.Rows.of_shell.Goals as goal

pub returns : goal.returns
returns c =
    let old : Built = c.in_ok-built.built in
    rows_made c.args.solid.now c.args.shell.now old c.add_shell.new.self c.in_ok-edges.edges.items c.in_ok-vertices.vertices.items
    (length c.as_slice-3.result.now)
    c.in_ok-built.ensures.rows c.in_ok-built.ensures.next c.in_ok-built.ensures.points c.in_ok-built.ensures.edges c.in_ok-built.ensures.vertices
    c.in_ok-add_shell.ensures
    (edges_made c.args.solid.now c.args.shell.now old c.add_shell.new.self c.in_ok-edges.edges.items c.as_slice.result.now c.in_ok-built.ensures.edges
    c.in_ok-add_shell.ensures c.requires.known c.in_ok-edges.ensures c.as_slice.ensures.value)
    (vertices_made c.args.solid.now c.args.shell.now old c.add_shell.new.self c.in_ok-vertices.vertices.items c.as_slice-2.result.now
    c.in_ok-built.ensures.vertices c.in_ok-add_shell.ensures c.requires.known c.in_ok-vertices.ensures c.as_slice-2.ensures.value)
    (ap (length {A = FaceUse}) c.as_slice-3.ensures)

pub invariant_of-result : goal.invariant_of-result
invariant_of-result c =
    let old : Built = c.in_ok-built.built in
    subst AreRows (sym (rows_made c.args.solid.now c.args.shell.now old c.add_shell.new.self c.in_ok-edges.edges.items c.in_ok-vertices.vertices.items
    (length c.as_slice-3.result.now)
    c.in_ok-built.ensures.rows c.in_ok-built.ensures.next c.in_ok-built.ensures.points c.in_ok-built.ensures.edges c.in_ok-built.ensures.vertices
    c.in_ok-add_shell.ensures
    (edges_made c.args.solid.now c.args.shell.now old c.add_shell.new.self c.in_ok-edges.edges.items c.as_slice.result.now c.in_ok-built.ensures.edges
    c.in_ok-add_shell.ensures c.requires.known c.in_ok-edges.ensures c.as_slice.ensures.value)
    (vertices_made c.args.solid.now c.args.shell.now old c.add_shell.new.self c.in_ok-vertices.vertices.items c.as_slice-2.result.now
    c.in_ok-built.ensures.vertices c.in_ok-add_shell.ensures c.requires.known c.in_ok-vertices.ensures c.as_slice-2.ensures.value)
    (ap (length {A = FaceUse}) c.as_slice-3.ensures))) c.requires.whole
