use Rattle.std.proofs.Common.{not, sym, ap, ◌∙◌, arith}
use Rattle.iges_params.specs.Records.{points_back}
use Rattle.iges_params.proofs.Ranges.{first_not, place_here, place_next}
use Rattle.iges_params.proofs.record.later_foreign.Goals as goal

pub lines-init : goal.lines-init
lines-init c =
    first_not c.args.sections.now.param c.args.from c.args.count c.args.known.now c.requires.first c.requires.some c.requires.within
    (λ l. not (points_back c.args.number l)) (ap not c.requires.back)

pub returns-then-not-carries_too-clause-place : goal.returns-then-not-carries_too-clause-place
returns-then-not-carries_too-clause-place c =
    let line = c.in-Some.ensures {u = tt} in
    let test = ap not (sym c.carries_too.ensures ∙ c.if-not-carries_too.true) in
    place_here c.args.sections.now.param c.args.from c.args.count c.lines.i c.in-Some.line.now (sym line.line) (omega arith) c.requires.within
    (λ l. not (points_back c.args.number l)) test c.lines.invariant

pub lines-preserved : goal.lines-preserved
lines-preserved c =
    let line = c.in-Some.ensures {u = tt} in
    let test = ap not (sym c.carries_too.ensures ∙ c.if-not-carries_too.false) in
    place_next c.args.sections.now.param c.args.from c.args.count c.lines.i c.in-Some.line.now (sym line.line) (omega arith) c.requires.within
    (λ l. not (points_back c.args.number l)) test c.lines.invariant
