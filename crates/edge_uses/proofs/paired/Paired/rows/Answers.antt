use Rattle.std.proofs.Common.{subst}
use Rattle.edge_uses.specs.Mates.{AreInvolution, TurnsPermute}
use Rattle.edge_uses.proofs.Turns.{mates_involute, turns_permute}
use Rattle.edge_uses.proofs.paired.Paired.rows.Goals as goal

pub returns-clause-mates : goal.returns-clause-mates
returns-clause-mates c = subst AreInvolution c.self.view_is (mates_involute c.self.inside.rows.now c.self.invariant.whole)

pub returns-clause-turns : goal.returns-clause-turns
returns-clause-turns c = subst TurnsPermute c.self.view_is (turns_permute c.self.inside.rows.now c.self.invariant.whole)
