use Rattle.std.proofs.Common.{◌≡◌, drop}
use Rattle.changed_file.specs.Folds.{fold_items}
use Rattle.changed_file.specs.Changing.{with_piece}
use Rattle.changed_file.proofs.new_entries.put_more.Given as goal

abbrev pub invariant-pieces : goal.invariant-pieces
invariant-pieces l = fold_items (with_piece l.file l.solid l.at.0 l.shell) l.draft (drop l.i l.pieces)
    ≡ fold_items (with_piece l.file l.solid l.at.0 l.shell) l.fn.draft l.pieces
