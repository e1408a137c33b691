use Rattle.std.specs.Prelude.{IsTrue}
use Rattle.orient_certificate.proofs.Answered.{ring_iff}
use Rattle.orient_certificate.proofs.checker.OrientChecker.ring.Goals as goal

pub returns : goal.returns
returns c =
    ring_iff c.self.inside.solid.now c.self.inside.shell.0 c.args.self.now c.self.inside.graph.crossings.items c.as_slice.result.now c.self.inside.graph.faces
    c.self.inside.graph.first c.args.rows.now c.as_slice-2.result.now (IsTrue c.is_odd_walk.result)
    c.self.view_is c.self.invariant c.as_slice.ensures.value c.as_slice-2.ensures c.is_odd_walk.ensures
