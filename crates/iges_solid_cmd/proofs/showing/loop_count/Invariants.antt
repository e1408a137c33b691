use Rattle.std.proofs.Common.{◌≡◌, ◌+◌, drop}
use Rattle.iges_solid_cmd.specs.Texts.{loop_count}
use Rattle.iges_solid_cmd.proofs.showing.loop_count.Given as goal

-- the loops that are counted, and those of the faces that are left, are all of them
abbrev pub invariant-faces : goal.invariant-faces
invariant-faces l = l.count + loop_count (drop l.face-index l.faces) ≡ loop_count l.faces
