use Rattle.std.proofs.Common.{◌∙◌, ap, arith, sym, length, slice_get}
use Rattle.shell_facts.proofs.UpTo.{count_listed, listed_at_place}
use Rattle.shell_facts.proofs.faces.FacesUpTo.face.Goals as goal

pub face_at-requires-clause-place : goal.face_at-requires-clause-place
face_at-requires-clause-place c =
    omega (arith, c.requires, count_listed c.self.inside.touches.now c.self.inside.places.now c.self.invariant, ap length c.self.view_is)

pub face_at-requires-clause-touch : goal.face_at-requires-clause-touch
face_at-requires-clause-touch c =
    c.self.invariant c.args.i 0
    (omega (arith, c.requires, count_listed c.self.inside.touches.now c.self.inside.places.now c.self.invariant, ap length c.self.view_is))

pub returns : goal.returns
returns c =
    ap (λ faces. slice_get faces c.args.i) (sym c.self.view_is)
    ∙ listed_at_place c.self.inside.touches.now c.self.inside.places.now c.args.i c.face_at.result c.self.invariant
    (omega (arith, c.requires, count_listed c.self.inside.touches.now c.self.inside.places.now c.self.invariant, ap length c.self.view_is)) c.face_at.ensures
