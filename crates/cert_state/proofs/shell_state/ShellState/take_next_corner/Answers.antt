use Rattle.std.proofs.Common.{subst, sym}
use Rattle.cert_lines.specs.Line.{corner}
use Rattle.cert_state.specs.CheckState.{HoldsMates}
use Rattle.cert_state.specs.Matching.{TakesNext}
use Rattle.cert_state.specs.contracts.shell_state.ShellState.{the_view}
use Rattle.cert_state.proofs.Telling.{with_vertex, corner_takes}
use Rattle.cert_state.proofs.NextLine.{after_within, takes_next, corner_leads}
use Rattle.cert_state.proofs.shell_state.ShellState.take_next_corner.Goals as goal

pub overflow_sub-text : goal.overflow_sub-text
overflow_sub-text c =
    let (rs, n, some) = c.in-Some-read_corner.ensures.numbers in
    after_within c.args.text.now c.in-Some-after_byte.after.now (corner rs)
    (corner_leads c.args.text.now c.in-Some.numbers.now c.in-Some-read_corner.rest.now c.in-Some-after_byte.after.now rs c.in-Some.ensures n some
    c.in-Some-after_byte.ensures)

pub returns-clause-line : goal.returns-clause-line
returns-clause-line c =
    let (rs, n, some) = c.in-Some-read_corner.ensures.numbers in
    let leads = corner_leads c.args.text.now c.in-Some.numbers.now c.in-Some-read_corner.rest.now c.in-Some-after_byte.after.now rs c.in-Some.ensures n some
    c.in-Some-after_byte.ensures in
    let new = with_vertex (the_view c.self.inside) c.in-Some-read_corner.vertex.0 in
    subst (λ k. TakesNext k new c.args.limit c.args.text.now c.in-Some-after_byte.after.now) c.self.view_is
    (takes_next (the_view c.self.inside) new c.args.limit c.args.text.now c.in-Some-after_byte.after.now (corner rs) tt leads c.if-text-after.false
    (corner_takes (the_view c.self.inside) rs c.in-Some-read_corner.vertex.0 (c.has_corner.ensures.0 c.if-not-has_corner.false)
    (λ at hm same. let f = c.in-Some-read_corner.ensures.fits at rs c.in-Some-read_corner.rest.now
    (subst (λ ms. HoldsMates ms at.mates) (sym c.deref-2.ensures.value) hm) same n in (f.0, f.1))))
