use Rattle.std.specs.Prelude.{get_or}
use Rattle.shell_change.proofs.Matching.{EachBelow}
use Rattle.change_pieces.specs.Gathered.{HasAll}
use Rattle.change_pieces.proofs.gathering.have_all.Given as goal

abbrev pub invariant-shells : goal.invariant-shells
invariant-shells l = EachBelow (λ piece h. HasAll l.flag (get_or l.counts piece 0) h) l.shells l.i
