use Rattle.std.proofs.Common.{◌∙◌, ◌≤◌, length, arith}
use Rattle.solid_reorient.specs.Reflagged.{values_with}
use Rattle.solid_reorient.proofs.Putting.{values_put, put_all}
use Rattle.solid_reorient.proofs.flag_values.set_flags.Goals as goal

pub returns : goal.returns
returns c =
    let past : length c.args.flags.now ≤ c.flags.k = omega (arith, c.flags-test.false, c.flags.auto.k-end) in
    put_all c.args.flags.now c.flags.k c.flags.values (values_with c.args.flags.now c.args.values.now) past (c.flags.invariant
    ∙ values_put c.args.flags.now c.args.values.now)
