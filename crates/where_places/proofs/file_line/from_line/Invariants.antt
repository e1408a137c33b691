use Rattle.std.proofs.Common.{◌≡◌}
use Rattle.where_places.specs.FileLine.{from_line}
use Rattle.where_places.proofs.file_line.from_line.Given as goal

abbrev pub invariant-lines : goal.invariant-lines
invariant-lines l = from_line l.left l.rest ≡ from_line l.count l.bytes

abbrev pub decreases-lines : goal.decreases-lines
decreases-lines l = l.left
