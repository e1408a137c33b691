use Rattle.std.proofs.Common.{ap, sym, ◌∙◌}
use Rattle.std.specs.Prelude.{Option, Some}
use Rattle.iges_base.proofs.Lists.{some_at}
use Rattle.edge_uses.specs.ShellRows.{rows_of}
use Rattle.solid_data.specs.declared.solid.Shell.{Shell}
use Rattle.solid_faults.specs.Edges.{shared_of}
use Rattle.solid_faults.proofs.Assembled.{meet_without_gap}
use Rattle.where_solids.proofs.Judged.{fans_at, gapless}
use Rattle.where_solids.proofs.fault_paragraphs.put_faults.Goals as goal

pub put_linking-requires-clause-meet : goal.put_linking-requires-clause-meet
put_linking-requires-clause-meet c = λ some.
    let here = some_at c.args.view.now.solid.now.shells c.args.view.now.at.0 c.requires.shell in
    let found = c.requires.faults here.0 here.1 in
    meet_without_gap c.args.view.now.solid.now c.args.view.now.at.0 (Some here.0) c.args.view.now.rows.now c.args.faults.now.gaps here.1
    (c.requires.rows ∙ ap (rows_of c.args.view.now.solid.now) here.1) found.gaps
    (gapless _ _ _ c.linking.result _ c.linking.ensures found.linking some)

pub put_linking-requires-clause-fans : goal.put_linking-requires-clause-fans
put_linking-requires-clause-fans c =
    let here = some_at c.args.view.now.solid.now.shells c.args.view.now.at.0 c.requires.shell in
    let found = c.requires.faults here.0 here.1 in
    fans_at c.args.view.now.rows.now _ _ _ c.linking.result _ (c.requires.rows ∙ ap (rows_of c.args.view.now.solid.now) here.1) c.linking.ensures found.linking

pub put_apart-requires-clause-shared : goal.put_apart-requires-clause-shared
put_apart-requires-clause-shared c =
    let here = some_at c.args.view.now.solid.now.shells c.args.view.now.at.0 c.requires.shell in
    let found = c.requires.faults here.0 here.1 in
    c.shared.ensures ∙ found.shared ∙ ap (λ (o : Option Shell). shared_of c.args.view.now.solid.now c.args.view.now.at.0 (rows_of
    c.args.view.now.solid.now o)) (sym here.1)
