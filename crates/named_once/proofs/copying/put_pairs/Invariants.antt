use Rattle.std.proofs.Common.{◌≡◌, drop}
use Rattle.changed_file.specs.Folds.{fold_items}
use Rattle.named_once.specs.Once.{with_pair}
use Rattle.named_once.proofs.copying.put_pairs.Given as goal

abbrev pub invariant-places : goal.invariant-places
invariant-places l = fold_items (with_pair l.values) l.copying (drop l.i l.stay) ≡ fold_items (with_pair l.values) l.fn.copying l.stay
