use Rattle.std.proofs.Common.{◌≡◌, drop, flat_map}
use Rattle.solid_data.specs.SolidData.{SolidData, vertices_used}
use Rattle.change_pieces.specs.Reading.{appeared}
use Rattle.change_pieces.proofs.numbering.vertices_appear.Given as goal

abbrev pub invariant-uses : goal.invariant-uses
invariant-uses l = (s : SolidData) → s.edges ≡ l.edges → appeared (flat_map (vertices_used s) (drop l.i l.uses)) l.count ≡ appeared (flat_map (vertices_used s) l.uses) 0
