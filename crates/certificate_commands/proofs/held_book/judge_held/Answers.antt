use Rattle.certificate_commands.proofs.BookSteps.{held_fails}
use Rattle.certificate_commands.proofs.held_book.judge_held.Goals as goal

pub returns-in-Err-clause-found : goal.returns-in-Err-clause-found
returns-in-Err-clause-found c = λ certificate ns front whole few begins.
    let tells = rw c.in-Err.is at (c.in_ok-solid.ensures {u = tt}).found in
    held_fails c.args.walker.now certificate ns front c.args.no.0 c.args.line c.args.rest.now c.in-Err.reply whole few begins tells

pub returns-clause-found : goal.returns-clause-found
returns-clause-found c = λ certificate ns front whole few begins.
    let checked = rw c.in-Ok.is at (c.in_ok-solid.ensures {u = tt}).found in
    c.judge_held_lines-outcome.ensures.found c.args.walker.now certificate ns front c.args.no.0 whole few begins checked
