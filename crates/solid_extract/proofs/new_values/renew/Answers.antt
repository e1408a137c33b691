use Rattle.std.proofs.Common.{◌∙◌, ap, sym}
use Rattle.std.specs.Prelude.{option_copied}
use Rattle.std.proofs.lemmas.Option.{same_Some}
use Rattle.solid_extract.specs.NewValues.{value_as}
use Rattle.solid_extract.proofs.KeptValues.{set_same}
use Rattle.solid_extract.proofs.new_values.renew.Goals as goal

pub returns-in_default : goal.returns-in_default
returns-in_default c v at =
    let value = c.unwrap-value.result.now in
    let same = same_Some v value (sym at ∙ (sym c.get.ensures.value ∙ ap option_copied c.unwrap-value.ensures)) in
    set_same c.args.values.now c.args.i v (value_as c.args.renaming.now c.args.is_pointer c.args.is_cut v) at
    (ap (value_as c.args.renaming.now c.args.is_pointer c.args.is_cut) same ∙ (c.in_default.ensures ∙ sym same))
