use Rattle.std.proofs.Common.{◌∙◌, List, ℕ, subst, sym}
use Rattle.solid_data.specs.declared.solid.VertexKey.{VertexKey}
use Rattle.vertex_places.specs.Places.{ArePlaces}
use Rattle.solid_geometry.proofs.known.places_of.Goals as goal

pub returns-clause-places : goal.returns-clause-places
returns-clause-places c =
    subst (λ (ps : List ℕ). ArePlaces c.args.file.now c.args.solid.now.vertices ps) (sym (c.in_ok-list.ensures ∙ c.as_slice-2.ensures.value))
    (subst (λ (vs : List VertexKey). ArePlaces c.args.file.now vs c.in_ok-places.places.items) (c.as_slice.ensures.value ∙ c.in_ok-vertices.ensures)
    c.in_ok-places.ensures.same)
