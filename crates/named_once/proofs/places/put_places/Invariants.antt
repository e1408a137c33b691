use Rattle.std.proofs.Common.{◌≡◌, drop}
use Rattle.changed_file.specs.Folds.{fold_items}
use Rattle.named_once.specs.Once.{with_place}
use Rattle.named_once.proofs.places.put_places.Given as goal

abbrev pub invariant-places : goal.invariant-places
invariant-places l = fold_items (with_place l.file l.listed) l.seen (drop l.i l.numbers) ≡ fold_items (with_place l.file l.listed) l.fn.seen l.numbers
