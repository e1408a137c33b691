use Rattle.std.proofs.Common.{◌≡◌, ◌++◌, drop, map}
use Rattle.changed_file.specs.Faces.{loop_number}
use Rattle.changed_file.proofs.faces.put_loop_numbers.Given as goal

abbrev pub invariant-loops : goal.invariant-loops
invariant-loops l = l.numbers ++ map loop_number (drop l.i l.loops) ≡ l.fn.numbers ++ map loop_number l.loops
