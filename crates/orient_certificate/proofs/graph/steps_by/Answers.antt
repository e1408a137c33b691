use Rattle.std.proofs.Common.{◌≡◌, ◌∙◌, sym, ap, Bool, List, length}
use Rattle.edge_uses.proofs.Steps.{none_of}
use Rattle.orient_certificate.specs.Partners.{AllHaveTwoRows}
use Rattle.orient_certificate.proofs.Answered.{steps_made, shell_faces, map_long}
use Rattle.orient_certificate.proofs.graph.steps_by.Goals as goal

pub steps_of-requires-clause-faces : goal.steps_of-requires-clause-faces
steps_of-requires-clause-faces c =
    let shell = c.args.shell.now in
    let long : length c.as_slice.result.now ≡ length shell.faces = ap (λ (xs : List Bool). length xs) (c.as_slice.ensures.value ∙ c.in_ok-forwards.ensures)
    ∙ map_long shell.flag shell.faces in
    long ∙ sym (shell_faces c.args.solid.now c.args.at.0 shell c.args.rows.now c.requires.rows c.requires.shell)

pub returns-clause-steps : goal.returns-clause-steps
returns-clause-steps c =
    let two : AllHaveTwoRows c.args.rows.now = none_of c.first_miscounted.result _ _ c.in_default.not-Some c.first_miscounted.ensures in
    steps_made c.args.shell.now c.args.rows.now c.in_ok-steps.steps.items c.in_ok-forwards.forwards.items c.as_slice.result.now two c.as_slice.ensures.value
    c.in_ok-forwards.ensures c.in_ok-steps.ensures.each c.in_ok-steps.ensures.steps
