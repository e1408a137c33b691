use Rattle.record_values.proofs.Going.{counted, miscounted}
use Rattle.record_values.proofs.misfit.count_of.Goals as goal

pub returns-in-Some-count_in : goal.returns-in-Some-count_in
returns-in-Some-count_in c = counted c.args.values.now c.args.at c.in-Some-count_in.count c.args.counted c.in-Some._value.now c.in-Some.ensures.few
    c.in-Some.ensures.value c.in-Some-count_in.ensures.0 c.in-Some-count_in.ensures.1

pub returns-in-None : goal.returns-in-None
returns-in-None c = miscounted c.args.values.now c.args.at c.args.counted c.in-Some._value.now c.in-Some.ensures.value c.in-None.ensures
