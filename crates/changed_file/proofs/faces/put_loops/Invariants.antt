use Rattle.std.proofs.Common.{◌≡◌, drop}
use Rattle.changed_file.specs.Folds.{fold_pairs}
use Rattle.changed_file.specs.Faces.{with_loop}
use Rattle.changed_file.proofs.faces.put_loops.Given as goal

abbrev pub invariant-loops : goal.invariant-loops
invariant-loops l = fold_pairs (with_loop l.file l.solid l.lists) l.slots (drop l.i l.now) (drop l.i l.old)
    ≡ fold_pairs (with_loop l.file l.solid l.lists) l.fn.slots l.now l.old
