use Rattle.std.proofs.Common.{not, sym, ap, ◌∙◌, arith}
use Rattle.iges_params.specs.Records.{points_back}
use Rattle.iges_params.proofs.Ranges.{first_here}
use Rattle.iges_params.proofs.record.first_foreign.Goals as goal

pub returns-then-not-carries-clause-place : goal.returns-then-not-carries-clause-place
returns-then-not-carries-clause-place c =
    let line = c.in-Some.ensures {u = tt} in
    let test = ap not (sym c.carries.ensures ∙ c.if-not-carries.true) in
    first_here c.args.sections.now.param c.args.from c.args.count c.in-Some.line.now (sym line.line) (omega arith) c.requires.within
    (λ l. not (points_back c.args.number l)) test
