use Rattle.std.proofs.Common.{arith, inr}
use Rattle.edge_uses.specs.Around.{IsPoint}
use Rattle.open_shells.proofs.FanWalks.{is_point, not_point, both_there}
use Rattle.open_shells.proofs.fanning.corner_at.Goals as goal

pub returns-then-points-ne1 : goal.returns-then-points-ne1
returns-then-points-ne1 c = not_point c.args.mated.now c.args.vertex c.args.starts c.args.points c.requires.starts c.requires.points c.if-starts-eq0.true
    c.if-points-ne1.true

pub returns-then-starts-eq0 : goal.returns-then-starts-eq0
returns-then-starts-eq0 c =
    let p : IsPoint c.args.mated.now c.args.vertex = is_point c.args.mated.now c.args.vertex c.args.starts c.args.points c.requires.starts c.requires.points
    c.if-starts-eq0.true c.if-points-ne1.false in
    ((p, c.requires.points.last (omega arith)), inr p)

pub returns-then-points-ne0 : goal.returns-then-points-ne0
returns-then-points-ne0 c = both_there c.args.mated.now c.args.vertex c.args.starts c.args.points c.requires.starts c.requires.points
    (omega (arith, c.if-starts-eq0.false)) c.if-points-ne0.true
