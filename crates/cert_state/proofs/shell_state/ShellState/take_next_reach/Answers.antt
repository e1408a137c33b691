use Rattle.cert_lines.specs.Line.{reach}
use Rattle.cert_state.proofs.NextLine.{after_within, takes_next}
use Rattle.cert_state.proofs.shell_state.ShellState.take_next_reach.Goals as goal

pub overflow_sub-text : goal.overflow_sub-text
overflow_sub-text c = after_within c.args.text.now c.in-Some.after.now (reach c.in-Some.row) c.in-Some.ensures

pub returns-clause-line : goal.returns-clause-line
returns-clause-line c =
    takes_next c.args.self.now c.take_reach.new.self c.args.limit c.args.text.now c.in-Some.after.now (reach c.in-Some.row) tt
    c.in-Some.ensures c.if-text-after.false c.if-not-take_reach.ensures.line
