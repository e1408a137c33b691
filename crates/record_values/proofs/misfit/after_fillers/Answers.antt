use Rattle.std.proofs.Common.{sym, ◌∙◌, []}
use Rattle.record_values.proofs.Going.{took, refused}
use Rattle.record_values.proofs.misfit.after_fillers.Goals as goal

pub values-preserved : goal.values-preserved
values-preserved c = c.values.invariant ∙ took c.args.values.now c.values.at [] c.in-Some.value.now c.in-Some.ensures.value
    (sym c.is_filler.ensures ∙ c.if-not-is_filler.false)

pub returns-then-not-is_filler : goal.returns-then-not-is_filler
returns-then-not-is_filler c =
    sym (c.values.invariant ∙ refused c.args.values.now c.values.at [] c.in-Some.value.now c.in-Some.ensures.value
    (sym c.is_filler.ensures ∙ c.if-not-is_filler.true))
