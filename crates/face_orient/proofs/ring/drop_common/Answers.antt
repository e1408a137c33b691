use Rattle.std.proofs.Common.{rules, ◌≡◌, vec_len, length}
use Rattle.face_orient.specs.Paths.{EndAlike}
use Rattle.face_orient.proofs.Climbs.{common_dropped}
use Rattle.face_orient.proofs.ring.drop_common.Goals as goal

pub ends-preserved : goal.ends-preserved
ends-preserved c = λ cs a b p q l.
    let ends : EndAlike c.ends.down.items c.ends.up.items = search rules in
    let long : vec_len c.ends.down ≡ length c.ends.down.items = search rules in
    let high : vec_len c.ends.up ≡ length c.ends.up.items = search rules in
    common_dropped c.ends.down.items c.ends.up.items c.pop.new.self.items c.pop-in-ends.new.self.items (vec_len c.ends.down) (vec_len c.ends.up) ends long high
    c.pop.ensures.rest c.pop-in-ends.ensures.rest cs a b p q (c.ends.invariant cs a b p q l)
