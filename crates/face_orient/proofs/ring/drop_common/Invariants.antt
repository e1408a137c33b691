use Rattle.std.proofs.Common.{ℕ, Bool, List, length}
use Rattle.orient_certificate.specs.declared.crossing.Crossing.{Crossing}
use Rattle.face_orient.specs.Paths.{LeadUpTo}
use Rattle.face_orient.proofs.ring.drop_common.Given as goal

abbrev pub invariant-ends : goal.invariant-ends
invariant-ends l = (cs : List Crossing) (a b : ℕ) (p q : Bool) → LeadUpTo cs a p l.fn.down.items b q l.fn.up.items → LeadUpTo cs a p l.down.items b q l.up.items

abbrev pub decreases-ends : goal.decreases-ends
decreases-ends l = length l.down.items
