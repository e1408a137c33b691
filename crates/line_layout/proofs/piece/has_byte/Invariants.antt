use Rattle.std.proofs.Common.{◌≡◌, ◌||◌, ◌==◌, drop}
use Rattle.std.specs.List.{list_any}
use Rattle.line_layout.proofs.piece.has_byte.Given as goal

abbrev pub invariant-bytes : goal.invariant-bytes
invariant-bytes l = (l.found || list_any (λ b. b == l.byte) (drop l.b-index l.bytes)) ≡ list_any (λ b. b == l.byte) l.bytes
