use Rattle.std.proofs.Common.{◌≡◌, take}
use Rattle.flag_choice.specs.Choice.{reversed}
use Rattle.flag_choice.proofs.choosing.reversed.Given as goal

abbrev pub invariant-flags : goal.invariant-flags
invariant-flags l = l.list ≡ reversed (take l.i l.flags)
