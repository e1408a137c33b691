use Rattle.std.proofs.Common.{length, ◌≡◌}
use Rattle.std.specs.Io.BufRead.{drop_through}
use Rattle.where_places.proofs.file_line.behind_piece.Given as goal

abbrev pub invariant-bytes : goal.invariant-bytes
invariant-bytes l = drop_through 10 l.rest ≡ drop_through 10 l.bytes

abbrev pub decreases-bytes : goal.decreases-bytes
decreases-bytes l = length l.rest
