use Rattle.std.proofs.Common.{sym, ap, ◌∙◌}
use Rattle.std.specs.Prelude.{option_copied}
use Rattle.iges_params.proofs.StartLines.{started_first, started_next}
use Rattle.iges_params.proofs.reading.begun.Goals as goal

pub lines-init : goal.lines-init
lines-init c =
    started_first c.args.lines.now c.args.global _ c.columns.result.now c.columns.ensures.is c.in_ok-file.file (c.in_ok-file.ensures {u = tt})
    (sym c.start.ensures.line ∙ ap (λ o. option_copied o) c.unwrap-first.ensures)

pub lines-preserved : goal.lines-preserved
lines-preserved c =
    let put = c.in_ok-push_start.ensures {u = tt} in
    started_next c.args.lines.now c.args.global _ c.columns-in-lines.result.now c.columns-in-lines.ensures.is c.lines.i c.lines.file c.push_start.new.self
    c.lines.invariant put.ok
    (sym c.start-in-lines.ensures.line ∙ ap (λ o. option_copied o) c.unwrap-line.ensures)
