use Rattle.brep_lists.specs.declared.entity_kind.EntityKind.TheVariants.{Loop as «loop»}
use Rattle.record_values.specs.declared.due.Counted.TheVariants.{Tuples}
use Rattle.record_values.specs.Expected.{item_layout, layout, times}
use Rattle.record_values.proofs.Going.{Gets}
use Rattle.record_values.proofs.misfit.after_loop.Given as goal

abbrev pub invariant-tuples : goal.invariant-tuples
invariant-tuples l = Gets l.values 0 (layout «loop») l.at (times l.left (item_layout Tuples))

abbrev pub decreases-tuples : goal.decreases-tuples
decreases-tuples l = l.left
