use Rattle.std.proofs.Common.{◌∙◌, map, sym, arith}
use Rattle.std.proofs.lemmas.List.{length-map}
use Rattle.solid_data.specs.declared.solid.FaceUse.{FaceUse}
use Rattle.flag_choice.proofs.ChosenLists.{all_change}
use Rattle.flag_choice.proofs.choosing.changes_turned.Goals as goal

pub returns : goal.returns
returns c =
    let both =
    all_change (map (λ (f : FaceUse). f.flag) c.args.faces.now) c.args.flags.now (length-map c.args.faces.now (λ (f : FaceUse). f.flag) ∙ sym c.requires) in
    omega (arith, both, c.changes.ensures.is, c.changes.ensures.few)
