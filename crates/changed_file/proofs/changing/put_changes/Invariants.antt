use Rattle.std.proofs.Common.{◌≡◌, drop}
use Rattle.changed_file.specs.Folds.{fold_items}
use Rattle.changed_file.specs.Changing.{with_change}
use Rattle.changed_file.proofs.changing.put_changes.Given as goal

abbrev pub invariant-changes : goal.invariant-changes
invariant-changes l = fold_items (with_change l.file l.solid) l.draft (drop l.i l.changes)
    ≡ fold_items (with_change l.file l.solid) l.fn.draft l.changes
