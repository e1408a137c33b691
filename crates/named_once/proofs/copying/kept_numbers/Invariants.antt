use Rattle.std.proofs.Common.{◌≡◌, drop}
use Rattle.changed_file.specs.Folds.{fold_pairs}
use Rattle.named_once.specs.Once.{kept_numbers, with_kept_number}
use Rattle.named_once.proofs.copying.kept_numbers.Given as goal

abbrev pub invariant-places : goal.invariant-places
invariant-places l = fold_pairs with_kept_number l.kept (drop l.i l.numbers) (drop l.i l.stay) ≡ kept_numbers l.numbers l.stay
