use Rattle.std.proofs.Common.{◌≡◌, ◌+◌, drop, length}
use Rattle.std.specs.Prelude.{sum_by}
use Rattle.solid_data.specs.declared.solid.FaceUse.{FaceUse}
use Rattle.cert_state.proofs.uses.loops_in.Given as goal

-- the loops that are counted, and those of the faces that are left, are all of them
abbrev pub invariant-faces : goal.invariant-faces
invariant-faces l = l.count + sum_by (λ (f : FaceUse). length f.loops) (drop l.face-index l.faces) ≡ sum_by (λ (f : FaceUse). length f.loops) l.faces
