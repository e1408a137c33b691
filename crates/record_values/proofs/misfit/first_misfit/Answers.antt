use Rattle.std.proofs.Common.{sym, ◌∙◌, ap, []}
use Rattle.std.proofs.lemmas.List.{append-nil}
use Rattle.record_values.specs.Expected.{first_misfit, layout, misfit_from}
use Rattle.record_values.proofs.Going.{misfit_within}
use Rattle.record_values.proofs.misfit.first_misfit.Goals as goal

pub returns-in-Ok-clause-is : goal.returns-in-Ok-clause-is
unfolding first_misfit
returns-in-Ok-clause-is c = c.after_fillers.ensures
    ∙ sym (ap (λ es. misfit_from 0 es c.args.values.now) (sym (append-nil (layout c.args.kind))) ∙ c.in-Ok.ensures [])

pub returns-in-Err-clause-is : goal.returns-in-Err-clause-is
unfolding first_misfit
returns-in-Err-clause-is c = sym (ap (λ es. misfit_from 0 es c.args.values.now) (sym (append-nil (layout c.args.kind))) ∙ c.in-Err.ensures [])

pub returns-in-Ok-clause-within : goal.returns-in-Ok-clause-within
returns-in-Ok-clause-within c = misfit_within c.args.kind c.args.values.now c.after_fillers.result (returns-in-Ok-clause-is c)

pub returns-in-Err-clause-within : goal.returns-in-Err-clause-within
returns-in-Err-clause-within c = misfit_within c.args.kind c.args.values.now c.in-Err.misfit (returns-in-Err-clause-is c)
