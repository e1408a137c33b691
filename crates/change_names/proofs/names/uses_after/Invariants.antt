use Rattle.std.proofs.Common.{◌≡◌, ◌++◌, drop, flat_map}
use Rattle.change_names.specs.Names.{face_after}
use Rattle.change_names.proofs.names.uses_after.Given as goal

abbrev pub invariant-faces : goal.invariant-faces
invariant-faces l = l.out.items ++ flat_map face_after (drop l.i l.fates) ≡ flat_map face_after l.fates
