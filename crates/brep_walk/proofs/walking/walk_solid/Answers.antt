use Rattle.std.proofs.Common.{sym, subst}
use Rattle.solid_data.specs.Numbering.{IsNumberedSolid}
use Rattle.brep_walk.proofs.Few.{has_few_parts}
use Rattle.brep_walk.proofs.Found.{solid_is_numbered}
use Rattle.brep_walk.proofs.WholeSolid.{solid_is}
use Rattle.std.proofs.Common.{◌∙◌}
use Rattle.brep_walk.proofs.walking.walk_solid.Goals as goal

pub new-requires : goal.new-requires
new-requires c =
    let f = c.args.walk.now.lists in
    let e = c.in_ok-shells.ensures in
    subst IsNumberedSolid
    (sym (solid_is f c.args.no c.in_ok-shells.shells c.take_edges-edges.result c.take_vertices-vertices.result c.numbered_shells.new.walk.numbering e.shells
    (c.take_edges-edges.ensures ∙ c.take_vertices-vertices.ensures.edges) e.edges c.take_vertices-vertices.ensures.vertices e.keys))
    (solid_is_numbered f c.args.no.0 e.holds (has_few_parts f c.args.no.0 e.limits e.holds))

pub returns-clause-solid : goal.returns-clause-solid
returns-clause-solid c =
    let f = c.args.walk.now.lists in
    let e = c.in_ok-shells.ensures in
    c.new.ensures
    ∙ solid_is f c.args.no c.in_ok-shells.shells c.take_edges-edges.result c.take_vertices-vertices.result c.numbered_shells.new.walk.numbering e.shells
    (c.take_edges-edges.ensures ∙ c.take_vertices-vertices.ensures.edges) e.edges c.take_vertices-vertices.ensures.vertices e.keys
