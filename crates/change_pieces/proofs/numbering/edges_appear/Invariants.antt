use Rattle.std.proofs.Common.{◌≡◌, drop, flat_map}
use Rattle.solid_data.specs.SolidData.{edge_used}
use Rattle.change_pieces.specs.Reading.{appeared}
use Rattle.change_pieces.proofs.numbering.edges_appear.Given as goal

abbrev pub invariant-uses : goal.invariant-uses
invariant-uses l = appeared (flat_map edge_used (drop l.i l.uses)) l.count ≡ appeared (flat_map edge_used l.uses) 0
