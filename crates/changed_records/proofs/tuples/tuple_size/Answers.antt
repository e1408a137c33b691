use Rattle.std.proofs.Common.{◌+◌, ◌*◌, ◌∙◌, ap, sym}
use Rattle.brep_lists.specs.Record.{count_of}
use Rattle.brep_lists.proofs.Views.{value_after}
use Rattle.changed_records.proofs.tuples.tuple_size.Goals as goal

pub returns-clause-is : goal.returns-clause-is
returns-clause-is c = ap (λ n. 5 + 2 * n) (c.count_at-curves.ensures ∙ sym (ap count_of (value_after c.args.at 4 c.args.values.now)))
