use Rattle.std.proofs.Common.{◌∙◌, rules, w64}
use mir.Val.{SFits}
use Rattle.std.proofs.lemmas.Int.{to_z-of_z}
use Rattle.solid_geometry.proofs.RecordValues.{curve_there}
use Rattle.solid_geometry.proofs.curves.curve_of.Goals as goal

pub returns-in-Some : goal.returns-in-Some
returns-in-Some c =
    let fits : SFits w64 c.int_of.result = search rules in
    to_z-of_z w64 c.int_of.result fits
    ∙ (c.int_of.ensures ∙ curve_there c.args.file.now c.args.edge c.saturating_sub-place.result c.in-Some.values.now _ c.in-Some.ensures c.saturating_sub-place.ensures
    c.get.ensures.value)
