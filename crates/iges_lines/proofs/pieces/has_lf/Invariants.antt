use Rattle.std.proofs.Common.{◌≡◌, ◌||◌, ◌==◌, drop}
use Rattle.std.specs.List.{list_any}
use Rattle.iges_lines.proofs.pieces.has_lf.Given as goal

abbrev pub invariant-bytes : goal.invariant-bytes
invariant-bytes l = (l.found || list_any (λ b. b == 10) (drop l.b-index l.bytes)) ≡ list_any (λ b. b == 10) l.bytes
