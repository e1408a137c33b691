use Rattle.std.proofs.Common.{◌∙◌, sym, ap}
use Rattle.std.specs.Prelude.{option_copied}
use Rattle.iges_params.proofs.Copies.{copy_more}
use Rattle.iges_params.proofs.copying.push_copies.Goals as goal

pub values-preserved : goal.values-preserved
values-preserved c = copy_more c.args.values.now c.args.from c.values.i c.unwrap.result.now c.args.list.now c.values.list c.push_copy.new.list
    (sym c.get.ensures.value ∙ ap option_copied c.unwrap.ensures) c.values.invariant c.in_ok-push_copy.ensures
