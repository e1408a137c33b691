use Rattle.std.proofs.Common.{◌≡◌, ◌+◌, drop, length}
use Rattle.sample_solids.specs.Laws.{faces_in}
use Rattle.iges_solid_cmd.proofs.sampling.face_count.Given as goal

-- the faces that are counted, and those of the shells that are left, are all of them
abbrev pub invariant-shells : goal.invariant-shells
invariant-shells l = l.count + length (faces_in (drop l.k l.solid.shells)) ≡ length (faces_in l.solid.shells)
