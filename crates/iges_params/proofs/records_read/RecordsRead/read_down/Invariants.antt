use Rattle.std.proofs.Common.{◌≡◌, ◌-◌, ◌≤◌, ℕ, List, []}
use Rattle.iges_params.specs.FromLast.{AreRead, IsFront}
use Rattle.iges_params.proofs.records_read.RecordsRead.read_down.Given as goal

abbrev pub invariant-entries : goal.invariant-entries
invariant-entries l = record {
  from : l.from ≤ l.self.left;
  within : l.self.left ≤ l.fn.self.left;
  spare_empty : l.self.spare ≡ [];
  read : (all : List (List ℕ)) → IsFront l.params.lines.now.param all → AreRead l.params.above all l.params.delims l.entries l.fn.self
      → AreRead l.params.above all l.params.delims l.entries l.self;
}

abbrev pub decreases-entries : goal.decreases-entries
decreases-entries l = l.self.left - l.from
