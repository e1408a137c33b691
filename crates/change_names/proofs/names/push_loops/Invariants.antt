use Rattle.std.proofs.Common.{◌≡◌, ◌++◌, drop, flat_map}
use Rattle.change_names.specs.Names.{loop_after}
use Rattle.change_names.proofs.names.push_loops.Given as goal

abbrev pub invariant-loops : goal.invariant-loops
invariant-loops l = l.out.items ++ flat_map loop_after (drop l.i l.loops) ≡ l.fn.out.items ++ flat_map loop_after l.loops
