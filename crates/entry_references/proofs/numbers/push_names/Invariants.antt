use Rattle.std.proofs.Common.{◌≡◌, ◌+◌, ◌-◌, ◌++◌, take, drop}
use Rattle.std.specs.Prelude.{ℤ, List, filter, filter_map}
use Rattle.entry_references.specs.Refs.{is_name, number_of}
use Rattle.entry_references.proofs.numbers.push_names.Given as goal

abbrev pub invariant-pointers : goal.invariant-pointers
invariant-pointers l = record {
  names :
      l.numbers ++ filter (is_name l.file) (filter_map number_of (take (l.group.count - l.i) (drop (l.group.before + l.i) l.values)))
      ≡ l.fn.numbers ++ filter (is_name l.file) (filter_map number_of (take l.group.count (drop l.group.before l.values)));
  more : (put : List ℤ) × (l.numbers ≡ l.fn.numbers ++ put);
}

abbrev pub decreases-pointers : goal.decreases-pointers
decreases-pointers l = l.group.count - l.i
