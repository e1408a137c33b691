use Rattle.std.proofs.lemmas.Result.{err_from_is_err_and}
use Rattle.open_commands.proofs.Judged.{one_more, bad_one, ended}
use Rattle.open_commands.proofs.judging.judge_lines.Goals as goal

pub returns-in_err-line : goal.returns-in_err-line
returns-in_err-line c =
    let j = c.lines.invariant.judged in
    let p = err_from_is_err_and c.from_residual.result c.from_residual.ensures.1 in
    let wrong = (c.in_err-line.ensures {u = tt}).line j.lines j.stands in
    rw (p.1, p.2) (bad_one c.args.checker.now.solid c.args.text.now c.lines.checker c.lines.rest.now j c.in-Some.line.now c.in-Some.after.now
    (c.in-Some.ensures {u = tt}).0 c.in_err-line.field-0.0 wrong.0)

pub lines-preserved : goal.lines-preserved
lines-preserved c =
    let j = c.lines.invariant.judged in
    record {
      judged = one_more c.args.checker.now.solid c.args.text.now c.lines.checker c.lines.rest.now j c.in-Some.line.now c.in-Some.after.now
          (c.in-Some.ensures {u = tt}).0 c.line.new.self c.line.ensures.solid
          ((c.in_ok-line.ensures {u = tt}).line j.lines j.stands);
    }

pub returns : goal.returns
returns c =
    let j = c.lines.invariant.judged in
    ended c.args.checker.now.solid c.args.text.now c.lines.checker c.lines.rest.now j (c.in_default.ensures {u = tt}) c.finish.new.self c.finish.result
    (c.finish.ensures.ended j.lines j.stands)
