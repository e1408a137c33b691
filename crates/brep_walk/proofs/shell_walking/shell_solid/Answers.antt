use Rattle.std.proofs.Common.{sym, subst, ◌∙◌}
use Rattle.solid_data.specs.Numbering.{IsNumberedSolid}
use Rattle.brep_walk.specs.OpenPlaces.{open_places}
use Rattle.brep_walk.specs.declared.fault.WalkFault.TheVariants.{NoMemory}
use Rattle.brep_walk.proofs.Faults.{handed}
use Rattle.brep_walk.proofs.ShellSolids.{shell_is_numbered, shell_solid_is}
use Rattle.brep_walk.proofs.shell_walking.shell_solid.Goals as goal

pub new-requires : goal.new-requires
new-requires c =
    let f = c.args.walk.now.lists in
    let e = c.in_ok-faces.ensures in
    subst IsNumberedSolid
    (sym (shell_solid_is f c.args.no c.in_ok-faces.faces _ c.new-shells.ensures c.push.new.self c.in_ok-push.ensures.ok e.faces c.take_edges-edges.result
    c.take_vertices-vertices.result c.numbered_faces.new.walk.numbering (c.take_edges-edges.ensures ∙ c.take_vertices-vertices.ensures.edges) e.edges c.take_vertices-vertices.ensures.vertices e.keys))
    (shell_is_numbered f c.args.no.0 e.limits e.holds)

pub returns-clause-solid : goal.returns-clause-solid
returns-clause-solid c =
    let f = c.args.walk.now.lists in
    let e = c.in_ok-faces.ensures in
    c.new.ensures
    ∙ shell_solid_is f c.args.no c.in_ok-faces.faces _ c.new-shells.ensures c.push.new.self c.in_ok-push.ensures.ok e.faces c.take_edges-edges.result
    c.take_vertices-vertices.result c.numbered_faces.new.walk.numbering (c.take_edges-edges.ensures ∙ c.take_vertices-vertices.ensures.edges) e.edges c.take_vertices-vertices.ensures.vertices e.keys

pub returns-in_err-push-clause-fault : goal.returns-in_err-push-clause-fault
returns-in_err-push-clause-fault c =
    handed (open_places c.args.walk.now.lists c.args.no.0) c.from_residual-in_err-push.result NoMemory tt c.from_residual-in_err-push.ensures.1
