use Rattle.std.proofs.Common.{◌+◌, drop}
use Rattle.solid_data.specs.declared.solid.Edge.{Edge}
use Rattle.change_pieces.specs.Reading.{Climbs}
use Rattle.change_pieces.proofs.numbering.keys_climb.Given as goal

abbrev pub invariant-edges : goal.invariant-edges
invariant-edges l = Climbs (λ (e : Edge). e.key.index) (l.i + 1) (drop l.i l.edges) → Climbs (λ (e : Edge). e.key.index) 1 l.edges
