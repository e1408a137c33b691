use Rattle.std.proofs.Common.{◌≡◌, drop}
use Rattle.changed_file.specs.Folds.{fold_items}
use Rattle.named_once.specs.Once.{with_shell}
use Rattle.named_once.proofs.leaving.put_shells.Given as goal

abbrev pub invariant-shells : goal.invariant-shells
invariant-shells l = fold_items (with_shell l.file) l.draft (drop l.i l.numbers) ≡ fold_items (with_shell l.file) l.fn.draft l.numbers
