use Rattle.std.proofs.Common.{◌≡◌, drop}
use Rattle.changed_file.specs.Folds.{fold_items}
use Rattle.named_once.specs.Once.{kept_count, with_one}
use Rattle.named_once.proofs.copying.kept_count.Given as goal

abbrev pub invariant-places : goal.invariant-places
invariant-places l = fold_items with_one l.count (drop l.i l.stay) ≡ kept_count l.stay
