use Rattle.std.specs.Prelude.{◌-◌, length}
use Rattle.face_orient.proofs.HeadLists.{HeadsFrom}
use Rattle.face_orient.proofs.heads.heads_of.Given as goal

abbrev pub invariant-steps : goal.invariant-steps
invariant-steps l = HeadsFrom l.fn.faces l.fn.crossings (length l.fn.crossings - l.k) l.first.items l.next.items
