use Rattle.std.proofs.Common.{◌≡◌, drop}
use Rattle.changed_file.specs.Folds.{fold_items}
use Rattle.changed_file.specs.Faces.{with_count}
use Rattle.changed_file.proofs.faces.piece_count.Given as goal

abbrev pub invariant-faces : goal.invariant-faces
invariant-faces l = fold_items with_count l.count (drop l.i l.fates) ≡ fold_items with_count 0 l.fates
