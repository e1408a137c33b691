use Rattle.std.proofs.Common.{sym, subst, flat_map, length}
use Rattle.std.specs.Prelude.{◌<◌, All}
use Rattle.edge_uses.specs.Before.{face_vertices}
use Rattle.shell_facts.proofs.PartSteps.{all_of_part}
use Rattle.shell_facts.proofs.faces.push_shell.Goals as goal

pub push_face-requires : goal.push_face-requires
push_face-requires c =
    all_of_part (λ v. v < length c.args.solid.now.vertices) (face_vertices c.args.solid.now) c.as_slice-faces.result.now c.index-faces-i.result c.faces.i
    (subst (λ fs. All (λ v. v < length c.args.solid.now.vertices) (flat_map (face_vertices c.args.solid.now) fs)) (sym c.as_slice-faces.ensures) c.requires)
    c.faces-test.true (sym c.index-faces-i.is)
