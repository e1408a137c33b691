use Rattle.iges_params.proofs.Passages.{passage_ok, passage_err}
use Rattle.iges_params.proofs.passage.passage_values.Goals as goal

pub returns-in-Ok : goal.returns-in-Ok
returns-in-Ok c =
    let p = c.args.passage.now in
    let read = c.in-Ok.ensures {u = tt} in
    passage_ok p.first p.width p.columns.now c.args.reason c.args.delims p.text.now c.requires.permitted _ _ read.found

pub returns-in-Err-Field : goal.returns-in-Err-Field
returns-in-Err-Field c =
    let p = c.args.passage.now in
    let read = rw c.in-Err-Field.field-0-is at c.in-Err-Field.ensures.fault in
    rw (c.bad.ensures, c.line_of.ensures) (passage_err p.first p.width p.columns.now c.args.reason c.args.delims p.text.now c.requires.permitted _ read)
