use Rattle.std.proofs.Common.{◌∙◌, ap, arith, refl, map}
use Rattle.shell_facts.specs.FaceTable.{vertex_of}
use Rattle.shell_facts.proofs.FaceSteps.{few_touches, touches_within}
use Rattle.shell_facts.proofs.faces.faces_by_vertex.Goals as goal

pub grouped-requires-clause-within : goal.grouped-requires-clause-within
grouped-requires-clause-within c =
    touches_within c.args.solid.now c.in_ok-vertices.vertices.items c.in_ok-touches.touches.items _ refl c.vertex_count.ensures c.in_ok-touches.ensures
    (c.in_ok-vertices.ensures ∙ ap (map vertex_of) c.as_slice.ensures.value)

pub grouped-requires-clause-few : goal.grouped-requires-clause-few
grouped-requires-clause-few c =
    let few = few_touches c.args.solid.now c.in_ok-vertices.vertices.items c.in_ok-touches.touches.items c.recall_numbering.ensures.numbered
    c.in_ok-touches.ensures (c.in_ok-vertices.ensures ∙ ap (map vertex_of) c.as_slice.ensures.value) in
    omega (arith, few)
