use Rattle.std.proofs.Common.{◌+◌, ◌≡◌, ap, ◌∙◌, sym, subst}
use Rattle.where_places.specs.declared.span.Span.{Span}
use Rattle.where_places.specs.Spans.{StandsAt}
use Rattle.where_places.proofs.Standing.{ends, stands}
use Rattle.where_places.proofs.span.value_span.Goals as goal

pub returns-clause-stands : goal.returns-clause-stands
returns-clause-stands c = λ n used v free at. subst (StandsAt c.args.delims.now c.args.text.now _ v) (sym c.found_span.ensures.is)
    (stands c.args.delims.now c.args.text.now c.args.values.now c.args.k n used v c.found_span.ensures.permitted free at)

pub returns-clause-end : goal.returns-clause-end
returns-clause-end c = λ n used free past. ap (λ (s : Span). s.at + 1) c.found_span.ensures.is
    ∙ ends c.args.delims.now c.args.text.now c.args.values.now c.args.k n used c.found_span.ensures.permitted free past
