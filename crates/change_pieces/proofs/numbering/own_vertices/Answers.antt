use Rattle.std.proofs.Common.{refl, rules}
use Rattle.change_pieces.proofs.Numbered.{next_key}
use Rattle.change_pieces.proofs.numbering.own_vertices.Goals as goal

pub vertices-preserved : goal.vertices-preserved
vertices-preserved c = next_key c.vertices.i c.vertices.out _ _ c.vertices.invariant refl (search rules)
