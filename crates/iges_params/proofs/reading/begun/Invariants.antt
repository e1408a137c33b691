use Rattle.std.proofs.Common.{◌≡◌}
use Rattle.iges_params.proofs.StartLines.{started}
use Rattle.iges_params.proofs.reading.begun.Given as goal

abbrev pub invariant-lines : goal.invariant-lines
invariant-lines l = l.file ≡ started l.lines l.fn.global l.i
