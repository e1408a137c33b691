use Rattle.std.proofs.Common.{◌≡◌, drop}
use Rattle.changed_file.specs.Folds.{fold_items}
use Rattle.named_once.specs.Marks.{with_mark}
use Rattle.named_once.proofs.marks.mark_all.Given as goal

abbrev pub invariant-numbers : goal.invariant-numbers
invariant-numbers l = fold_items (with_mark l.file) l.marks (drop l.i l.numbers) ≡ fold_items (with_mark l.file) l.fn.marks l.numbers
