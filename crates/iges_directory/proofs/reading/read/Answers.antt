use Rattle.std.proofs.Common.{◌∙◌, ap, sym, option_copied, arith}
use Rattle.std.proofs.lemmas.Result.{err_from_is_err_and}
use Rattle.iges_directory.proofs.Going.{read_none, read_next, read_fault, read_unpaired, read_all, read_bounded}
use Rattle.iges_directory.proofs.reading.read.Goals as goal

pub entries-init : goal.entries-init
entries-init c = read_none c.args.s.now _ c.in_ok-entries.ensures.items

pub returns-in_err-push-in-Ok : goal.returns-in_err-push-in-Ok
returns-in_err-push-in-Ok c =
    let p = err_from_is_err_and c.from_residual-in_err-push-in-Ok.result c.from_residual-in_err-push-in-Ok.ensures.1 in rw (p.1, p.2) tt

pub entries-preserved : goal.entries-preserved
entries-preserved c =
    read_next c.args.s.now c.entries.i _ c.entries.invariant c.unwrap-first.result.now c.unwrap-second.result.now
    (ap option_copied (sym c.unwrap-first.ensures) ∙ c.directory.ensures.line)
    (ap option_copied (sym c.unwrap-second.ensures) ∙ c.directory-in-entries.ensures.line)
    _ c.param_count-params.ensures.count c.in-Ok.placed (rw c.unwrap-second.ensures at c.directory-in-entries.ensures.in_line) c.in-Ok.ensures _
    c.in_ok-push-in-Ok.ensures.items

pub returns-in-Err : goal.returns-in-Err
returns-in-Err c =
    rw c.line_fault.ensures (
    read_fault c.args.s.now c.entries.i _ c.entries.invariant c.unwrap-first.result.now c.unwrap-second.result.now
    (ap option_copied (sym c.unwrap-first.ensures) ∙ c.directory.ensures.line)
    (ap option_copied (sym c.unwrap-second.ensures) ∙ c.directory-in-entries.ensures.line)
    _ c.param_count-params.ensures.count _ c.in-Err.fault (omega arith) c.in-Err.ensures
    )

pub returns-then-lines-eq1 : goal.returns-then-lines-eq1
returns-then-lines-eq1 c =
    rw c.line_fault-then-lines-eq1.ensures (
    read_unpaired c.args.s.now c.entries.i _ c.entries.invariant _ (omega arith) (omega arith)
    )

pub of-requires : goal.of-requires
of-requires c = read_bounded c.args.s.now c.entries.i _ c.entries.invariant c.directory_count-lines.ensures.sections (omega arith)

pub returns : goal.returns
returns c = rw c.of.ensures (read_all c.args.s.now c.entries.i _ c.entries.invariant (omega arith))
