use Rattle.cert_lines.specs.Line.{edge}
use Rattle.cert_state.proofs.NextLine.{after_within, takes_next}
use Rattle.cert_state.proofs.shell_state.ShellState.take_next_edge.Goals as goal

pub overflow_sub-text : goal.overflow_sub-text
overflow_sub-text c = after_within c.args.text.now c.in-Some.after.now (edge c.in-Some.along c.in-Some.against) c.in-Some.ensures

pub returns-clause-line : goal.returns-clause-line
returns-clause-line c =
    takes_next c.args.self.now c.take_edge.new.self c.args.limit c.args.text.now c.in-Some.after.now (edge c.in-Some.along c.in-Some.against) tt
    c.in-Some.ensures c.if-text-after.false c.if-not-take_edge.ensures.line
