use Rattle.std.proofs.Common.{◌≡◌, ◌∙◌, ap, sym, subst, flat_map, length, map, arith}
use Rattle.std.specs.Prelude.{All}
use Rattle.solid_data.specs.SolidData.{occurring}
use Rattle.solid_data.specs.declared.solid.FaceUse.{FaceUse}
use Rattle.solid_data.specs.Ranges.{IsWithin}
use Rattle.edge_uses.specs.Before.{face_vertices}
use Rattle.shell_components.specs.FaceUses.{face_edges}
use Rattle.shell_components.specs.Groups.{places_of}
use Rattle.shell_facts.specs.PartFacts.{part_faces, part_edges, part_vertices, IsPart}
use Rattle.shell_facts.specs.PartTables.{ShellParts, low_vertex, faces_numbered}
use Rattle.shell_facts.specs.declared.parting.Part.{Part}
use Rattle.shell_facts.proofs.PartSteps.{part_named, edges_below, vertices_below, part_within, touching_kept, rises_to}
use Rattle.shell_facts.proofs.parting.PartTables.part.Goals as goal

pub touching-requires : goal.touching-requires
touching-requires c =
    let s = c.self.inside.solid.now in
    let h = c.self.inside.shell.now in
    let firsts = c.self.inside.firsts.now in
    let named : faces_numbered h c.places-numbers.result.now ≡ part_faces h firsts c.args.first =
    ap (faces_numbered h) (c.places-numbers.ensures ∙ ap (places_of c.args.first) c.self.invariant.parts)
    ∙ part_named h firsts c.args.first c.self.invariant.each in
    let vertices : c.in_ok-vertices.vertices.items ≡ part_vertices s h firsts c.args.first =
    rises_to (length s.vertices) c.as_slice-2.result.now c.in_ok-vertices.vertices.items (flat_map (face_vertices s) (part_faces h firsts c.args.first))
    c.in_ok-vertices.ensures (c.as_slice-2.ensures.value ∙ (c.in_ok-used.ensures.vertices ∙ ap (flat_map (face_vertices s)) named))
    (vertices_below s h firsts c.args.first c.self.invariant.known) in
    subst (All (IsWithin c.self.inside.lows.span)) (sym (c.as_slice-3.ensures.value ∙ vertices))
    (part_within s h firsts c.args.first c.self.inside.lows.span c.self.invariant.within)

pub returns : goal.returns
returns c =
    let s = c.self.inside.solid.now in
    let h = c.self.inside.shell.now in
    let firsts = c.self.inside.firsts.now in
    let lows = c.self.inside.lows in
    let named : faces_numbered h c.places-numbers.result.now ≡ part_faces h firsts c.args.first =
    ap (faces_numbered h) (c.places-numbers.ensures ∙ ap (places_of c.args.first) c.self.invariant.parts)
    ∙ part_named h firsts c.args.first c.self.invariant.each in
    let edges : c.in_ok-edges.edges.items ≡ part_edges s h firsts c.args.first =
    rises_to (length s.edges) c.as_slice.result.now c.in_ok-edges.edges.items (flat_map face_edges (part_faces h firsts c.args.first)) c.in_ok-edges.ensures
    (c.as_slice.ensures.value ∙ (c.in_ok-used.ensures.edges ∙ ap (flat_map face_edges) named))
    (edges_below s h firsts c.args.first c.self.invariant.known) in
    let vertices : c.in_ok-vertices.vertices.items ≡ part_vertices s h firsts c.args.first =
    rises_to (length s.vertices) c.as_slice-2.result.now c.in_ok-vertices.vertices.items (flat_map (face_vertices s) (part_faces h firsts c.args.first))
    c.in_ok-vertices.ensures (c.as_slice-2.ensures.value ∙ (c.in_ok-used.ensures.vertices ∙ ap (flat_map (face_vertices s)) named))
    (vertices_below s h firsts c.args.first c.self.invariant.known) in
    let told : Part = record {
      faces = c.in_ok-faces.faces;
      edges = c.len.result;
      vertices = c.in_ok-vertices.vertices;
      unpaired =
          c.unpaired_among.result;
      touching = c.in_ok-touching.touching;
    } in
    subst (λ (q : ShellParts). IsPart q.solid q.shell q.firsts q.unpaired c.args.first told) c.self.view_is (record {
      faces = c.in_ok-faces.ensures ∙ ap (map (λ (f : FaceUse). f.entity)) named;
      edges = omega (arith, c.len.ensures, ap length edges);
      vertices = vertices;
      unpaired = c.unpaired_among.ensures
          ∙ (ap (λ es. length (occurring es c.self.inside.by_edge)) (c.as_slice-4.ensures.value ∙ edges)
          ∙ ap (λ us. length (occurring (part_edges s h firsts c.args.first) us)) c.self.invariant.edges);
      touching = c.in_ok-touching.ensures
          ∙ (ap (flat_map (low_vertex lows c.args.first)) (c.as_slice-3.ensures.value ∙ vertices)
          ∙ touching_kept s h firsts c.args.first lows c.self.invariant.lows (part_within s h firsts c.args.first lows.span c.self.invariant.within)
          (omega (arith, c.ranges.first.fits)));
    })
