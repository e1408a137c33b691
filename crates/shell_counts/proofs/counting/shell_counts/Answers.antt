use Rattle.std.proofs.Common.{◌≡◌, ◌∙◌, ap, sym, rules, flat_map, length, option_copied}
use Rattle.edge_uses.specs.Before.{face_vertices}
use Rattle.shell_components.specs.FaceUses.{face_edges}
use Rattle.shell_counts.proofs.Counted.{shell_counted}
use Rattle.shell_counts.proofs.counting.shell_counts.Goals as goal

pub returns : goal.returns
returns c =
    let s = c.args.solid.now in
    let h = c.unwrap-shell.result.now in
    let edges = c.as_slice-2.result.now in
    let vertices = c.as_slice-3.result.now in
    let are = shell_counted s c.args.at.0 h edges vertices c.in_ok-edges.edges.items c.in_ok-vertices.vertices.items c.shell.ensures.numbered
    (sym c.shell.ensures.item ∙ ap option_copied c.unwrap-shell.ensures)
    (c.as_slice-2.ensures.value ∙ (c.in_ok-used.ensures.edges ∙ ap (flat_map face_edges) c.as_slice.ensures))
    (c.as_slice-3.ensures.value ∙ (c.in_ok-used.ensures.vertices ∙ ap (flat_map (face_vertices s)) c.as_slice.ensures))
    c.in_ok-edges.ensures c.in_ok-vertices.ensures in
    let uses : c.len.result ≡ length edges = search rules in
    let each_edge : c.len-2.result ≡ length c.in_ok-edges.edges.items = search rules in
    let each_vertex : c.len-3.result ≡ length c.in_ok-vertices.vertices.items = search rules in
    record {
      uses = uses ∙ are.uses;
      edges = each_edge ∙ are.edges;
      vertices = each_vertex ∙ are.vertices;
    }
