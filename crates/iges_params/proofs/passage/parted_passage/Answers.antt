use Rattle.iges_params.proofs.Passages.{passage_ok, passage_err}
use Rattle.iges_params.proofs.passage.parted_passage.Goals as goal

pub returns-in-Ok-clause-ok : goal.returns-in-Ok-clause-ok
returns-in-Ok-clause-ok c =
    let p = c.args.passage.now in
    let read = c.in-Ok.ensures.found in
    passage_ok p.first p.width p.columns.now c.args.reason c.args.delims p.text.now c.requires.permitted _ read.0 read.1

pub returns-in-Err-Field-clause-err : goal.returns-in-Err-Field-clause-err
returns-in-Err-Field-clause-err c =
    let p = c.args.passage.now in
    let read = rw c.in-Err-Field.field-0-is at c.in-Err-Field.ensures.fault in
    rw (c.bad.ensures, c.line_of.ensures) (passage_err p.first p.width p.columns.now c.args.reason c.args.delims p.text.now c.requires.permitted _ read)
