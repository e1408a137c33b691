use Rattle.std.proofs.Common.{◌≡◌, map}
use Rattle.solid_data.specs.Ring.{numbers_from}
use Rattle.change_pieces.specs.Reading.{own_key}
use Rattle.change_pieces.proofs.numbering.own_vertices.Given as goal

abbrev pub invariant-vertices : goal.invariant-vertices
invariant-vertices l = l.out ≡ map own_key (numbers_from 0 l.i)
