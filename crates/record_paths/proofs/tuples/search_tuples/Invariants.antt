use Rattle.std.proofs.Common.{◌≡◌, ◌++◌, [], length, pos}
use Rattle.record_paths.specs.Paths.{sited_after, tuples_sited}
use Rattle.record_paths.proofs.SearchSteps.{Serves}
use Rattle.record_paths.proofs.tuples.search_tuples.Given as goal

abbrev pub invariant-tuples : goal.invariant-tuples
invariant-tuples l = record {
  count : l.item ≡ length l.yielded;
  left : l.yielded ++ l.tuple-iterator ≡ l.listed;
  serves : Serves (sited_after (tuples_sited l.file l.path (pos l.the_loop.0)) l.yielded l.tuple-iterator)
      (sited_after (tuples_sited l.file l.path (pos l.the_loop.0)) [] l.listed) l.name;
}
