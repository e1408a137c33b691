use Rattle.std.proofs.Common.{sym, ◌∙◌, ap, subst, arith, length}
use Rattle.std.proofs.lemmas.Result.{err_from_is_err_and}
use Rattle.std.proofs.lemmas.Option.{slice_get_within}
use Rattle.cert_state.proofs.PointOrder.{faces_of_rows, can_check}
use Rattle.solid_data.specs.Obligations.{AllHold}
use Rattle.edge_uses.specs.ShellRows.{ShellRows}
use Rattle.shell_rules.specs.ShellObligations.{pair_obligations, apart_obligations}
use Rattle.shell_rules.specs.Faults.{IsCheckFault}
use Rattle.std.specs.Prelude.{Some}
use Rattle.cert_state.specs.Progress.{loops_of}
use Rattle.cert_maker.specs.Certified.{IsPart}
use Rattle.shell_rules.specs.declared.fault.CheckFault.TheVariants.{Fails}
use Rattle.shell_rules.proofs.OneShell.{paired_not, reached_not, linked_not, apart_not, all_hold, same_rows}
use Rattle.cert_maker.proofs.shell_part.closed_part.Goals as goal

pub returns-in_err-paired-clause-fails : goal.returns-in_err-paired-clause-fails
returns-in_err-paired-clause-fails c =
    let p = err_from_is_err_and c.from_residual.result c.from_residual.ensures.1 in
    rw (p.1, p.2)
    (paired_not c.args.solid.now c.args.at.0 c.args.shell.now c.args.rows.now
    (same_rows c.args.solid.now c.args.at.0 c.args.shell.now c.args.rows.now c.requires.rows c.requires.at) c.requires.joined
    c.in_err-paired.field-0.0 c.in_err-paired.ensures.fails)

pub reached-requires : goal.reached-requires
reached-requires c =
    ap (λ (d : ShellRows). d.face_count)
    (c.in_ok-paired.ensures.rows ∙ same_rows c.args.solid.now c.args.at.0 c.args.shell.now c.args.rows.now c.requires.rows c.requires.at)
    ∙ faces_of_rows c.args.solid.now c.args.shell.now

pub returns-in_err-reach-clause-fails : goal.returns-in_err-reach-clause-fails
returns-in_err-reach-clause-fails c =
    let pairs : AllHold (pair_obligations c.args.solid.now c.in_ok-paired.paired) = subst (λ (d : ShellRows). AllHold (pair_obligations c.args.solid.now d))
    (sym c.in_ok-paired.ensures.rows) c.in_ok-paired.ensures.holds in
    let p = err_from_is_err_and c.from_residual-in_err-reach.result c.from_residual-in_err-reach.ensures.1 in
    rw (p.1, p.2)
    (reached_not c.args.solid.now c.args.at.0 c.args.shell.now c.in_ok-paired.paired
    (c.in_ok-paired.ensures.rows ∙ same_rows c.args.solid.now c.args.at.0 c.args.shell.now c.args.rows.now c.requires.rows c.requires.at)
    c.requires.joined pairs c.in_err-reach.field-0.0 c.in_err-reach.ensures.fails)

pub returns-in_err-links-clause-fails : goal.returns-in_err-links-clause-fails
returns-in_err-links-clause-fails c =
    let pairs : AllHold (pair_obligations c.args.solid.now c.in_ok-paired.paired) = subst (λ (d : ShellRows). AllHold (pair_obligations c.args.solid.now d))
    (sym c.in_ok-paired.ensures.rows) c.in_ok-paired.ensures.holds in
    let p = err_from_is_err_and c.from_residual-in_err-links.result c.from_residual-in_err-links.ensures.1 in
    rw (p.1, p.2)
    (linked_not c.args.solid.now c.args.at.0 c.args.shell.now c.in_ok-paired.paired
    (c.in_ok-paired.ensures.rows ∙ same_rows c.args.solid.now c.args.at.0 c.args.shell.now c.args.rows.now c.requires.rows c.requires.at)
    c.requires.joined pairs c.in_ok-reach.ensures.holds c.in_err-links.field-0.0 c.in_err-links.ensures.fails)

pub returns-in_err-apart-clause-fails : goal.returns-in_err-apart-clause-fails
returns-in_err-apart-clause-fails c =
    let p = err_from_is_err_and c.from_residual-in_err-apart.result c.from_residual-in_err-apart.ensures.1 in
    let pairs : AllHold (pair_obligations c.args.solid.now c.in_ok-paired.paired) = subst (λ (d : ShellRows). AllHold (pair_obligations c.args.solid.now d))
    (sym c.in_ok-paired.ensures.rows) c.in_ok-paired.ensures.holds in
    rw (p.1, p.2)
    (apart_not c.args.solid.now c.args.at.0 c.args.shell.now c.in_ok-paired.paired
    (c.in_ok-paired.ensures.rows ∙ same_rows c.args.solid.now c.args.at.0 c.args.shell.now c.args.rows.now c.requires.rows c.requires.at)
    c.requires.joined pairs c.in_ok-reach.ensures.holds c.in_ok-links.ensures.holds
    c.in_err-apart.field-0.0
    (subst (λ (d : ShellRows). IsCheckFault (apart_obligations c.args.solid.now c.args.at.0 d) (Fails c.in_err-apart.field-0.0))
    (sym c.in_ok-paired.ensures.rows) c.in_err-apart.ensures.fails))

pub returns-clause-part : goal.returns-clause-part
returns-clause-part c =
    subst (λ (d : ShellRows). IsPart d (loops_of (Some c.args.shell.now)) c.in_ok-part_of.field-0)
    (c.in_ok-paired.ensures.rows ∙ same_rows c.args.solid.now c.args.at.0 c.args.shell.now c.args.rows.now c.requires.rows c.requires.at)
    (subst (λ n. IsPart c.in_ok-paired.paired n c.in_ok-part_of.field-0) c.loops_in.ensures c.in_ok-part_of.ensures)

pub returns-clause-holds : goal.returns-clause-holds
returns-clause-holds c =
    let pairs : AllHold (pair_obligations c.args.solid.now c.in_ok-paired.paired) = subst (λ (d : ShellRows). AllHold (pair_obligations c.args.solid.now d))
    (sym c.in_ok-paired.ensures.rows) c.in_ok-paired.ensures.holds in
    all_hold c.args.solid.now c.args.at.0 c.args.shell.now c.in_ok-paired.paired
    (c.in_ok-paired.ensures.rows ∙ same_rows c.args.solid.now c.args.at.0 c.args.shell.now c.args.rows.now c.requires.rows c.requires.at)
    c.requires.joined pairs c.in_ok-reach.ensures.holds c.in_ok-links.ensures.holds
    (subst (λ (d : ShellRows). AllHold (apart_obligations c.args.solid.now c.args.at.0 d)) (sym c.in_ok-paired.ensures.rows) c.in_ok-apart.ensures.holds)

pub part_of-requires-clause-few : goal.part_of-requires-clause-few
part_of-requires-clause-few c =
    let can = can_check c.args.solid.now c.args.at.0 c.args.rows.now c.recall_numbering.ensures.numbered
    (slice_get_within c.args.solid.now.shells c.args.at.0 c.args.shell.now c.requires.at) c.requires.rows in
    omega (arith, can.few_vertices, ap (λ (d : ShellRows). length d.vertices) c.in_ok-paired.ensures.rows)
