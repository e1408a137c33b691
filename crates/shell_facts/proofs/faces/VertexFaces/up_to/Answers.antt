use Rattle.std.proofs.Common.{◌∙◌, ap, sym, map}
use Rattle.shell_components.specs.Groups.{places_of}
use Rattle.shell_facts.specs.FaceTable.{vertex_of}
use Rattle.shell_facts.proofs.UpTo.{first_listed, first_within}
use Rattle.shell_facts.proofs.faces.VertexFaces.up_to.Goals as goal

pub invariant_of-result : goal.invariant_of-result
invariant_of-result c =
    first_within c.args.vertex.0 c.count_up_to-count.result c.as_slice-touches.result.now c.places-places.result.now
    (c.places-places.ensures ∙ ap (places_of c.args.vertex.0) (c.self.invariant ∙ ap (map vertex_of) (sym c.as_slice-touches.ensures.value)))

pub returns : goal.returns
returns c s is lt =
    first_listed s c.args.shell.0 c.args.vertex.0 c.as_slice-touches.result.now c.places-places.result.now c.count_up_to-count.result
    (c.as_slice-touches.ensures.value ∙ (c.self.view_is ∙ is))
    (c.places-places.ensures ∙ ap (places_of c.args.vertex.0) (c.self.invariant ∙ ap (map vertex_of) (sym c.as_slice-touches.ensures.value))) lt
    c.count_up_to-count.ensures.point
