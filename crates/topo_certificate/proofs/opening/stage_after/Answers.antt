use Rattle.std.proofs.Common.{refl}
use Rattle.topo_certificate.proofs.OpeningLines.{head_wrong, solid_wrong}
use Rattle.topo_certificate.proofs.opening.stage_after.Goals as goal

pub returns-in-Ok : goal.returns-in-Ok
returns-in-Ok c = rw c.in-First.is (c.in-Ok.ensures {u = tt})

pub returns-in-Err : goal.returns-in-Err
returns-in-Err c = rw (c.in-First.is, c.at_line.ensures) (head_wrong c.args.line.now c.in-Err.misfit (c.in-Err.ensures {u = tt}))

pub returns-in-Ok-solid_line : goal.returns-in-Ok-solid_line
returns-in-Ok-solid_line c = rw c.in-Second.is (refl, c.in-Ok-solid_line.ensures {u = tt})

pub returns-in-Err-solid_line : goal.returns-in-Err-solid_line
returns-in-Err-solid_line c =
    rw (c.in-Second.is, c.at_line-in-Err-solid_line.ensures) (solid_wrong c.args.line.now c.in-Err-solid_line.misfit (c.in-Err-solid_line.ensures {u = tt}))
