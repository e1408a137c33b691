use Rattle.std.proofs.Common.{arith, refl, ◌∙◌}
use Rattle.cert_state.specs.Progress.{FitsLine}
use Rattle.topo_certificate.specs.Legal.{FitsPart}
use Rattle.topo_certificate.proofs.FedLines.{left_all, left_taken, after_shorter}
use Rattle.topo_certificate.proofs.checker.Checker.take_lines.Goals as goal

pub taken-init : goal.taken-init
taken-init c = record {
  left = left_all FitsLine c.args.self.now c.args.text.now;
  part = left_all FitsPart c.args.self.now c.args.text.now;
  within = omega arith;
  still = c.requires;
  same = (refl, refl);
}

pub taken-smaller : goal.taken-smaller
taken-smaller c =
    let t = c.in-Some.ensures.line in
    after_shorter c.taken.rest.now t.cut.front c.in-Some.after.now t.cut.whole

pub taken-preserved : goal.taken-preserved
taken-preserved c =
    let t = c.in-Some.ensures.line in
    let kept = c.in-Some.ensures.kept in
    let same = c.in-Some.ensures.same in
    let still = c.in-Some.ensures.failed ∙ c.taken.invariant.still in
    record {
      left = left_taken FitsLine c.args.self.now c.taken.self c.take_line.new.self c.args.text.now c.taken.rest.now c.in-Some.after.now t c.taken.invariant.still
          kept.0 same still kept.1 c.taken.invariant.left;
      part = left_taken FitsPart c.args.self.now c.taken.self c.take_line.new.self c.args.text.now c.taken.rest.now c.in-Some.after.now t c.taken.invariant.still
          kept.0 same still kept.1 c.taken.invariant.part;
      within = omega (arith, after_shorter c.taken.rest.now t.cut.front c.in-Some.after.now t.cut.whole, c.taken.invariant.within);
      still = still;
      same = (same.0 ∙ c.taken.invariant.same.0, same.1 ∙ c.taken.invariant.same.1);
    }

pub returns-clause-fed : goal.returns-clause-fed
returns-clause-fed c = rw c.in_default.ensures.refused c.taken.invariant.left

pub returns-clause-fed_part : goal.returns-clause-fed_part
returns-clause-fed_part c = rw c.in_default.ensures.refused c.taken.invariant.part
