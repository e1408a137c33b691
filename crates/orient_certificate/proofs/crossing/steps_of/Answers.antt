use Rattle.std.proofs.Common.{arith, length, ap, length-append, [], ◌∷◌}
use Rattle.orient_certificate.specs.Crossings.{IsStep}
use Rattle.orient_certificate.proofs.Stepping.{pushed_all}
use Rattle.orient_certificate.proofs.crossing.steps_of.Goals as goal

pub rows-preserved : goal.rows-preserved
rows-preserved c = record {
  each = omega (arith, ap length c.in_ok-push.ensures.items, length-append c.rows.crossings.items (c.step_at.result ∷ []), c.rows.invariant.each);
  steps = pushed_all (IsStep c.args.rows.now c.args.forwards.now) c.rows.crossings.items c.push.new.self.items c.step_at.result c.rows.r
      c.in_ok-push.ensures.items c.rows.invariant.each c.rows.invariant.steps c.step_at.ensures;
}
