use Rattle.std.proofs.Common.{◌≡◌, ◌++◌, drop}
use Rattle.where_text.specs.Spelled.{masked}
use Rattle.where_text.proofs.masking.put_masked.Given as goal

abbrev pub invariant-bytes : goal.invariant-bytes
invariant-bytes l = l.out ++ masked (drop l.byte-index l.bytes) ≡ l.fn.out ++ masked l.bytes
