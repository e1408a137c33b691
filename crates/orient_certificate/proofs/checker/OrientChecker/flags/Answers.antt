use Rattle.std.specs.Prelude.{IsTrue}
use Rattle.orient_certificate.proofs.Answered.{flags_iff}
use Rattle.orient_certificate.proofs.checker.OrientChecker.flags.Goals as goal

pub returns : goal.returns
returns c =
    flags_iff c.self.inside.solid.now c.self.inside.shell.0 c.args.self.now c.self.inside.graph.crossings.items c.as_slice.result.now c.self.inside.graph.faces
    c.self.inside.graph.first c.args.x.now c.as_slice-2.result.now (IsTrue c.suit.result)
    c.self.view_is c.self.invariant c.as_slice.ensures.value c.as_slice-2.ensures c.suit.ensures
