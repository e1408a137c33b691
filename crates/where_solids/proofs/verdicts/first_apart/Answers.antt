use Rattle.std.proofs.Common.{arith, false, []}
use Rattle.where_solids.proofs.FirstFailing.{apart_done, apart_here, apart_next, past}
use Rattle.where_solids.proofs.verdicts.first_apart.Goals as goal

pub returns-then-firsts-i-ne0 : goal.returns-then-firsts-i-ne0
returns-then-firsts-i-ne0 c = apart_here c.args.faces.now c.args.firsts.now c.faces.i _ (omega (arith, c.faces-test.true, c.min-count.ensures))
    (omega (arith, c.faces-test.true, c.min-count.ensures)) c.if-firsts-i-ne0.true c.faces.invariant

pub faces-preserved : goal.faces-preserved
faces-preserved c = apart_next c.args.faces.now c.args.firsts.now c.faces.i (record { entity = record { 0 = 0 }; flag = false; loops = [] })
    (omega (arith, c.faces-test.true, c.min-count.ensures)) (omega (arith, c.faces-test.true, c.min-count.ensures)) c.if-firsts-i-ne0.false c.faces.invariant

pub returns : goal.returns
returns c = apart_done c.args.faces.now c.args.firsts.now c.faces.i _ (past _ _ _ _ c.min-count.ensures c.faces-test.false) c.faces.invariant
