use Rattle.std.proofs.Common.{take}
use Rattle.solid_extract.specs.NewValues.{AreRenewed}
use Rattle.solid_extract.proofs.new_values.renew_all.Given as goal

abbrev pub invariant-cut : goal.invariant-cut
invariant-cut l =
    AreRenewed l.renaming (record { count = l.own.count; pointers = l.own.pointers; cut = take l.place-index l.cut }) l.fn.values l.pointed l.values
