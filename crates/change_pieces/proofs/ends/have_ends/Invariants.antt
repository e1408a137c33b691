use Rattle.solid_data.specs.declared.solid.Edge.{Edge}
use Rattle.shell_change.specs.declared.change.EdgeName.{EdgeName}
use Rattle.shell_change.proofs.Matching.{EachBelow, each_pair}
use Rattle.change_pieces.specs.Names.{ends_named, HasEnds}
use Rattle.change_pieces.proofs.ends.have_ends.Given as goal

abbrev pub invariant-edges : goal.invariant-edges
invariant-edges l = EachBelow (each_pair (λ (name : EdgeName) (e : Edge). HasEnds l.vertices (ends_named l.solid l.change name) e) l.names) l.edges l.i
