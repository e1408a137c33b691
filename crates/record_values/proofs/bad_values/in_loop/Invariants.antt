use Rattle.std.proofs.Common.{◌≡◌, ◌+◌, ◌≤◌}
use Rattle.std.specs.Prelude.{sum_by}
use Rattle.iges_base.specs.declared.TheConstants.{FILE_LIMIT}
use Rattle.record_values.specs.BadValue.{in_tuples, tuple_size}
use Rattle.brep_lists.specs.declared.entity_kind.EntityKind.TheVariants.{Loop as «loop»}
use Rattle.record_values.specs.Told.{told_in}
use Rattle.record_values.proofs.Curves.{at_tuple}
use Rattle.record_values.proofs.bad_values.in_loop.Given as goal

abbrev pub invariant-tuples : goal.invariant-tuples
invariant-tuples l = record {
  same : at_tuple l.file l.rule l.at l.left l.tuple-iterator ≡ in_tuples l.file l.rule l.i (told_in «loop» l.values);
  room : l.at + sum_by tuple_size l.tuple-iterator ≤ FILE_LIMIT + 1;
}
