use Rattle.std.proofs.Common.{sym, ◌∙◌, ◌∷◌}
use Rattle.record_values.specs.Expected.{single}
use Rattle.record_values.proofs.Going.{took, refused}
use Rattle.record_values.proofs.misfit.after_value.Goals as goal

pub returns-then-not-fills : goal.returns-then-not-fills
returns-then-not-fills c = λ rest. refused c.args.values.now c.args.at (single c.args.slot ∷ rest) c.in-Some.value.now c.in-Some.ensures.value
    (sym c.fills.ensures ∙ c.if-not-fills.true)

pub returns : goal.returns
returns c = λ rest. took c.args.values.now c.args.at (single c.args.slot ∷ rest) c.in-Some.value.now c.in-Some.ensures.value
    (sym c.fills.ensures ∙ c.if-not-fills.false)
