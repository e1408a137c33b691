use Rattle.std.proofs.Common.{◌≡◌, length, take}
use Rattle.iges_directory.specs.Entries.{status_of}
use Rattle.iges_directory.proofs.field.with_zeros.Given as goal

abbrev pub invariant-bytes : goal.invariant-bytes
invariant-bytes l = record { long : length l.digits ≡ 8; below : take l.i l.digits ≡ status_of (take l.i l.fn.bytes) }
