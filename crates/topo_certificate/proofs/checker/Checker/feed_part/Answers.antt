use Rattle.std.proofs.Common.{arith, ◌∙◌, subst, ◌≡◌, ◌+◌, ◌-◌, ◌≤◌, length}
use Rattle.std.proofs.lemmas.Result.{err_from_is_err_and}
use Rattle.topo_certificate.specs.Legal.{FitsPart}
use Rattle.topo_certificate.proofs.FedLines.{left_next, left_bad, left_next_part, left_on, after_shorter, EndsPartLine}
use Rattle.topo_certificate.proofs.checker.Checker.feed_part.Goals as goal

pub returns-in_err-told-clause-step : goal.returns-in_err-told-clause-step
returns-in_err-told-clause-step c =
    let p = err_from_is_err_and c.from_residual.result c.from_residual.ensures.1 in
    let ends = c.in-Some-first_ended.ensures {u = tt} in
    rw p.1 (λ v s first text fed. left_bad FitsPart c.args.self.now c.args.piece.now c.end_part_line.new.self c.in-Some-first_ended.after.now _ v s first text
    c.in_err-told.ensures.kept
    (left_next FitsPart c.args.self.now c.args.piece.now c.lines.self c.end_part_line.new.self c.lines.left.now c.in-Some-first_ended.line.now
    c.in-Some-first_ended.after.now ends.front ends.in_line ends.line_is ends.whole c.in_err-told.ensures.fed c.lines.invariant.left)
    fed)

pub returns-in-Next-clause-step : goal.returns-in-Next-clause-step
returns-in-Next-clause-step c =
    let ends = c.in-Some-first_ended.ensures {u = tt} in
    let piece = c.args.piece.now in
    let after = c.in-Some-first_ended.after.now in
    let used : (length piece - length after) + length after ≡ length piece =
    omega (arith, after_shorter c.lines.left.now ends.front after ends.whole, c.lines.invariant.within) in
    let within : length piece - length after ≤ length piece = omega arith in
    let next = subst (EndsPartLine c.lines.self c.in-Some-first_ended.line.now c.end_part_line.new.self) c.in-Next.is c.in_ok-told.ensures.fed in
    λ v s first text fed. (
      within,
      left_next_part c.args.self.now piece c.lines.self c.end_part_line.new.self c.lines.left.now c.in-Some-first_ended.line.now after ends.front c.in-Next.no
          c.in-Next.line (length piece - length after) v s first text ends.in_line ends.line_is ends.whole
          used next c.lines.invariant.left fed,
    )

pub lines-preserved : goal.lines-preserved
lines-preserved c =
    let ends = c.in-Some-first_ended.ensures {u = tt} in
    let done = c.in_ok-told.ensures in
    let more = subst (EndsPartLine c.lines.self c.in-Some-first_ended.line.now c.end_part_line.new.self) c.in-More.is done.fed in
    record {
      left = left_on FitsPart c.args.self.now c.end_part_line.new.self c.take_lines-left-in-More.new.self c.args.piece.now c.in-Some-first_ended.after.now
          c.take_lines-left-in-More.result.now
          (left_next FitsPart c.args.self.now c.args.piece.now c.lines.self c.end_part_line.new.self c.lines.left.now c.in-Some-first_ended.line.now
          c.in-Some-first_ended.after.now ends.front ends.in_line ends.line_is ends.whole more c.lines.invariant.left) c.take_lines-left-in-More.ensures.fed_part;
      within = omega
          (arith, c.take_lines-left-in-More.ensures.within, after_shorter c.lines.left.now ends.front c.in-Some-first_ended.after.now ends.whole, c.lines.invariant.within);
      still = c.take_lines-left-in-More.ensures.still;
      same = (
        c.take_lines-left-in-More.ensures.same.0 ∙ (done.same.0 ∙ c.lines.invariant.same.0),
        c.take_lines-left-in-More.ensures.same.1 ∙ (done.same.1 ∙ c.lines.invariant.same.1),
      );
    }
