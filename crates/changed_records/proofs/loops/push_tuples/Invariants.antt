use Rattle.std.proofs.Common.{◌≡◌, ◌++◌, drop, map}
use Rattle.changed_records.specs.Loops.{tuple_from, tuples_now}
use Rattle.changed_records.proofs.loops.push_tuples.Given as goal

abbrev pub invariant-uses : goal.invariant-uses
invariant-uses l = l.list ++ tuples_now l.solid l.lists l.now.reversed (map (tuple_from l.values) l.places) l.i (drop l.i l.uses)
    ≡ l.fn.list ++ tuples_now l.solid l.lists l.now.reversed (map (tuple_from l.values) l.places) 0 l.now.uses
