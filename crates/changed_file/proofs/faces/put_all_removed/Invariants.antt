use Rattle.std.proofs.Common.{◌≡◌, drop}
use Rattle.changed_file.specs.Folds.{fold_pairs}
use Rattle.changed_file.specs.Faces.{with_removed}
use Rattle.changed_file.proofs.faces.put_all_removed.Given as goal

abbrev pub invariant-faces : goal.invariant-faces
invariant-faces l = fold_pairs with_removed l.numbers (drop l.i l.fates) (drop l.i l.faces) ≡ fold_pairs with_removed l.fn.numbers l.fates l.faces
