use Rattle.std.proofs.Common.{◌∙◌, arith, length-set}
use Rattle.iges_directory.proofs.Statuses.{status_step, status_whole}
use Rattle.iges_directory.proofs.field.with_zeros.Goals as goal

pub bytes-preserved : goal.bytes-preserved
bytes-preserved c =
    let long = c.bytes.invariant.long in
    record {
      long = length-set c.bytes.digits c.bytes.i _ ∙ long;
      below = status_step c.bytes.digits c.args.bytes c.bytes.i _ (omega (arith, long)) (omega arith) c.bytes.invariant.below c.digit_of.ensures;
    }

pub returns : goal.returns
returns c = let long = c.bytes.invariant.long in status_whole c.bytes.digits c.args.bytes c.bytes.i (omega (arith, long)) (omega arith) c.bytes.invariant.below
