use Rattle.std.proofs.Common.{◌≡◌, None}
use Rattle.std.specs.Prelude.{replicate}
use Rattle.changed_file.proofs.draft.blank_slots.Given as goal

abbrev pub invariant-entries : goal.invariant-entries
invariant-entries l = l.slots ≡ replicate l.i None
