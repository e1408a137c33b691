use Rattle.std.proofs.Common.{sym, ◌∙◌, ap, subst}
use Rattle.std.specs.Prelude.{map}
use Rattle.std.specs.List.{AllZip}
use Rattle.std.proofs.lemmas.Result.{err_from_is_err_and}
use Rattle.cert_state.proofs.PointOrder.{faces_of_rows}
use Rattle.edge_uses.specs.ShellRows.{ShellRows}
use Rattle.open_certificate.specs.Obligations.{AllHold, edge_obligation}
use Rattle.open_shells.specs.Listed.{AreListedParts}
use Rattle.open_shells.specs.Mating.{AreOnce, AreRowsOf}
use Rattle.open_shells.proofs.OpenRules.{once_not, reached_not, fanned_not, all_hold}
use Rattle.open_shells.proofs.making.row_parts.Goals as goal

pub returns-in_err-edges-clause-fails : goal.returns-in_err-edges-clause-fails
returns-in_err-edges-clause-fails c =
    let p = err_from_is_err_and c.from_residual.result c.from_residual.ensures.1 in
    rw (p.1, p.2) (once_not c.args.solid.now c.args.shell.now c.args.rows.now c.requires.rows c.requires.joined c.in_err-edges.field-0.0
    c.in_err-edges.ensures.fails)

pub reached-requires : goal.reached-requires
reached-requires c = ap (λ (d : ShellRows). d.face_count) (c.in_ok-edges.ensures.rows ∙ c.requires.rows) ∙ faces_of_rows c.args.solid.now c.args.shell.now

pub returns-in_err-reach-clause-fails : goal.returns-in_err-reach-clause-fails
returns-in_err-reach-clause-fails c =
    let edges = subst (λ (d : ShellRows). AllHold (map (edge_obligation c.args.solid.now d) d.edges)) (sym c.in_ok-edges.ensures.rows)
    c.in_ok-edges.ensures.holds in
    let p = err_from_is_err_and c.from_residual-in_err-reach.result c.from_residual-in_err-reach.ensures.1 in
    rw (p.1, p.2) (reached_not c.args.solid.now c.args.shell.now c.in_ok-edges.mated (c.in_ok-edges.ensures.rows ∙ c.requires.rows) c.requires.joined edges
    c.in_err-reach.field-0.0 c.in_err-reach.ensures.fails)

pub returns-in_err-corners-clause-fails : goal.returns-in_err-corners-clause-fails
returns-in_err-corners-clause-fails c =
    let edges = subst (λ (d : ShellRows). AllHold (map (edge_obligation c.args.solid.now d) d.edges)) (sym c.in_ok-edges.ensures.rows)
    c.in_ok-edges.ensures.holds in
    let p = err_from_is_err_and c.from_residual-in_err-corners.result c.from_residual-in_err-corners.ensures.1 in
    rw (p.1, p.2) (fanned_not c.args.solid.now c.args.shell.now c.in_ok-edges.mated (c.in_ok-edges.ensures.rows ∙ c.requires.rows) c.requires.joined edges
    c.in_ok-reach.ensures.holds c.in_err-corners.field-0.0 c.in_err-corners.ensures.fails)

pub returns-clause-holds : goal.returns-clause-holds
returns-clause-holds c =
    let edges = subst (λ (d : ShellRows). AllHold (map (edge_obligation c.args.solid.now d) d.edges)) (sym c.in_ok-edges.ensures.rows)
    c.in_ok-edges.ensures.holds in
    all_hold c.args.solid.now c.args.shell.now c.in_ok-edges.mated (c.in_ok-edges.ensures.rows ∙ c.requires.rows) c.requires.joined edges
    c.in_ok-reach.ensures.holds c.in_ok-corners.ensures.holds

pub returns-clause-parts : goal.returns-clause-parts
returns-clause-parts c =
    subst (λ (d : ShellRows). AreListedParts d c.in_ok-edges.edges c.in_ok-corners.corners c.in_ok-reach.reach c.in_ok-borders.borders)
    (c.in_ok-edges.ensures.rows ∙ c.requires.rows) (record {
      each_edge = subst (λ (d : ShellRows). AllZip (AreRowsOf d) d.edges c.in_ok-edges.edges) (sym c.in_ok-edges.ensures.rows) c.in_ok-edges.ensures.edges;
      each_vertex = c.in_ok-corners.ensures.corners;
      each_face = c.in_ok-reach.ensures.rows;
      each_border = c.in_ok-borders.ensures;
    })

pub returns-clause-once : goal.returns-clause-once
returns-clause-once c = subst AreOnce (c.in_ok-edges.ensures.rows ∙ c.requires.rows) c.rows-table.ensures.whole
