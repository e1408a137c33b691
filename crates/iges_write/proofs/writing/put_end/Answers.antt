use Rattle.std.proofs.Common.{subst}
use Rattle.iges_write.specs.FileSheet.{with_counts}
use Rattle.iges_write.specs.Sheet.{Sheet, Steps, append_text}
use Rattle.iges_write.proofs.Sheets.{same_fails}
use Rattle.iges_write.proofs.WholeFile.{end_fails}
use Rattle.iges_write.proofs.writing.put_end.Goals as goal

pub returns-in_err-append : goal.returns-in_err-append
returns-in_err-append c =
    same_fails c.from_residual.result _ _ _
    (end_fails _ (append_text c.args.front.now c.args.params.now.text) c.args.counts.now (c.in_err-append.ensures {u = tt}))
    c.from_residual.ensures.1

pub returns : goal.returns
returns c =
    subst (λ (s : Sheet). Steps c.put_terminate.result c.put_terminate.new.page (with_counts s c.args.counts.now)) (c.in_ok-append.ensures {u = tt})
    c.put_terminate.ensures
