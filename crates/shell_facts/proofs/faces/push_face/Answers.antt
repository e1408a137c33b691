use Rattle.std.proofs.Common.{◌≡◌, ◌++◌, ◌∙◌, subst, length, map}
use Rattle.std.specs.Prelude.{IfOk}
use Rattle.edge_uses.specs.Before.{face_vertices}
use Rattle.shell_facts.proofs.PartSteps.{rises_to}
use Rattle.shell_facts.specs.FaceTable.{at_vertex}
use Rattle.shell_facts.proofs.faces.push_face.Goals as goal

pub returns : goal.returns
returns c =
    subst (λ vs. IfOk c.push_at.result (λ _. c.push_at.new.out.items ≡ c.args.out.now.items ++ map (at_vertex c.args.shell c.args.face.now.entity) vs))
    (c.as_slice.ensures.value ∙ rises_to (length c.args.solid.now.vertices) c.used_by.new.used.vertices.items c.rise.new.numbers.items
    (face_vertices c.args.solid.now c.args.face.now) c.rise.ensures c.in_ok-used_by.ensures.vertices c.requires)
    c.push_at.ensures
