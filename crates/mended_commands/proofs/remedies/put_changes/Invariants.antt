use Rattle.std.proofs.Common.{◌≡◌, ◌++◌, drop}
use Rattle.mended_commands.specs.Due.{remedies_told}
use Rattle.mended_commands.proofs.remedies.put_changes.Given as goal

abbrev pub invariant-changes : goal.invariant-changes
invariant-changes l = l.out ++ remedies_told l.file l.solid (drop l.i l.numbers) (drop l.i l.changes)
    ≡ l.fn.out ++ remedies_told l.file l.solid l.numbers l.changes
