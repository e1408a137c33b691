use Rattle.std.proofs.Common.{◌≡◌, ◌++◌, drop}
use Rattle.equal_values.specs.Keys.{marked}
use Rattle.equal_values.proofs.key.put_text.Given as goal

abbrev pub invariant-bytes : goal.invariant-bytes
invariant-bytes l = l.text.items ++ marked (drop l.byte-index l.piece) ≡ l.fn.text.items ++ marked l.piece
