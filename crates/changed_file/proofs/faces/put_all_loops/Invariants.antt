use Rattle.std.proofs.Common.{◌≡◌, drop}
use Rattle.changed_file.specs.Folds.{fold_pairs}
use Rattle.changed_file.specs.Faces.{with_loops_of}
use Rattle.changed_file.proofs.faces.put_all_loops.Given as goal

abbrev pub invariant-faces : goal.invariant-faces
invariant-faces l = fold_pairs (with_loops_of l.file l.solid l.lists) l.slots (drop l.i l.fates) (drop l.i l.faces)
    ≡ fold_pairs (with_loops_of l.file l.solid l.lists) l.fn.slots l.fates l.faces
