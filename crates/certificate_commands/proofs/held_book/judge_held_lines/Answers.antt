use Rattle.certificate_commands.proofs.held_book.judge_held_lines.Goals as goal

pub returns-clause-found : goal.returns-clause-found
returns-clause-found c = λ f certificate ns front n whole few begins checked.
    c.held_outcome.ensures.found f c.args.solid.now certificate ns front n c.args.line whole few begins checked (c.in_ok-checker.ensures {u = tt}).fed_part

pub returns-clause-further : goal.returns-clause-further
returns-clause-further c = c.held_outcome.ensures.further c.args.solid.now c.args.line (c.in_ok-checker.ensures {u = tt}).fed_part

pub held_outcome-requires : goal.held_outcome-requires
held_outcome-requires c = (c.args.solid.now, c.args.line, (c.in_ok-checker.ensures {u = tt}).fed_part)
