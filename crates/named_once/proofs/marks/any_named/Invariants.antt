use Rattle.std.proofs.Common.{◌≡◌, drop}
use Rattle.std.specs.List.{list_any}
use Rattle.named_once.specs.Marks.{was_named}
use Rattle.named_once.proofs.marks.any_named.Given as goal

abbrev pub invariant-numbers : goal.invariant-numbers
invariant-numbers l = list_any (was_named l.file l.marks) (drop l.number-index l.numbers) ≡ list_any (was_named l.file l.marks) l.numbers
