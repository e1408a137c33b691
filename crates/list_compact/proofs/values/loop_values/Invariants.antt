use Rattle.std.proofs.Common.{◌≡◌, ◌+◌, ◌++◌, drop, length, map, flat_map}
use Rattle.iges_params.specs.Contents.{Contents}
use Rattle.brep_lists.specs.DueValues.{MeetsAll}
use Rattle.brep_lists.specs.Record.{tuple_due}
use Rattle.list_compact.specs.Dropped.{loop_values, reindexed_tuple, with_indices}
use Rattle.list_compact.specs.Marking.{AreTables}
use Rattle.list_compact.proofs.values.loop_values.Given as goal

abbrev pub invariant-tuples : goal.invariant-tuples
invariant-tuples l = record {
  list : (g : Contents) → AreTables g l.ranks.edges l.ranks.vertices → l.list ++ with_indices (flat_map tuple_due (map (reindexed_tuple g) l.tuple-iterator))
      (drop l.at l.values) ≡ loop_values g l.values;
  meets : MeetsAll (flat_map tuple_due l.tuple-iterator) (drop l.at l.values);
  end : l.at + length (flat_map tuple_due l.tuple-iterator) ≡ 1 + length (flat_map tuple_due l.listed);
}
