use Rattle.std.proofs.Common.{◌≡◌, ◌<◌, ℕ, Some, slice_get}
use Rattle.face_orient.specs.FlagWalk.{IsFlagWalk, IsDone}
use Rattle.face_orient.proofs.flag_walk.FlagWalk.of.Given as goal

abbrev pub invariant-places : goal.invariant-places
invariant-places l = record {
  walk : IsFlagWalk l.faces l.crossings l.first l.walk.places.items l.walk.order.items;
  done : (j f : ℕ) → j < l.q → slice_get l.walk.order.items j ≡ Some f → IsDone l.crossings l.walk.order.items f;
}
