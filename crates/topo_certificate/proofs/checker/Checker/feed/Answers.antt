use Rattle.std.proofs.Common.{◌∙◌}
use Rattle.cert_state.specs.Progress.{FitsLine}
use Rattle.topo_certificate.proofs.FedLines.{left_next, left_bad, left_on}
use Rattle.topo_certificate.proofs.checker.Checker.feed.Goals as goal

pub returns-in_err-end_line-clause-fed : goal.returns-in_err-end_line-clause-fed
returns-in_err-end_line-clause-fed c =
    let ends = c.in-Some-first_ended.ensures {u = tt} in
    let done = c.in_err-end_line.ensures {u = tt} in
    λ v s first text fed. left_bad FitsLine c.args.self.now c.args.piece.now c.end_line.new.self c.in-Some-first_ended.after.now _ v s first text done.kept
    (left_next FitsLine c.args.self.now c.args.piece.now c.lines.self c.end_line.new.self c.lines.rest.now c.in-Some-first_ended.line.now
    c.in-Some-first_ended.after.now ends.front ends.in_line ends.line_is ends.whole done.fed c.lines.invariant.left) fed

pub lines-preserved : goal.lines-preserved
lines-preserved c =
    let ends = c.in-Some-first_ended.ensures {u = tt} in
    let done = c.in_ok-end_line.ensures {u = tt} in
    record {
      left = left_on FitsLine c.args.self.now c.end_line.new.self c.take_lines-rest-in-Some-first_ended.new.self c.args.piece.now c.in-Some-first_ended.after.now
          c.take_lines-rest-in-Some-first_ended.result.now
          (left_next FitsLine c.args.self.now c.args.piece.now c.lines.self c.end_line.new.self c.lines.rest.now c.in-Some-first_ended.line.now
          c.in-Some-first_ended.after.now ends.front ends.in_line ends.line_is ends.whole done.fed c.lines.invariant.left) c.take_lines-rest-in-Some-first_ended.ensures.fed;
      still = c.take_lines-rest-in-Some-first_ended.ensures.still;
      same = (
        c.take_lines-rest-in-Some-first_ended.ensures.same.0 ∙ (done.same.0 ∙ c.lines.invariant.same.0),
        c.take_lines-rest-in-Some-first_ended.ensures.same.1 ∙ (done.same.1 ∙ c.lines.invariant.same.1),
      );
    }
