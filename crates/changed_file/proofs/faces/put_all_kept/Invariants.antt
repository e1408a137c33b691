use Rattle.std.proofs.Common.{◌≡◌, drop}
use Rattle.changed_file.specs.Folds.{fold_pairs}
use Rattle.changed_file.specs.Faces.{with_kept}
use Rattle.changed_file.proofs.faces.put_all_kept.Given as goal

abbrev pub invariant-faces : goal.invariant-faces
invariant-faces l = fold_pairs with_kept l.pieces (drop l.i l.fates) (drop l.i l.faces) ≡ fold_pairs with_kept l.fn.pieces l.fates l.faces
