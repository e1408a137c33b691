use Rattle.std.proofs.Common.{sym, ap, ◌∙◌, rules, w64}
use mir.Val.{SFits}
use Rattle.std.proofs.lemmas.Int.{to_z-of_z}
use Rattle.iges_params.specs.Named.{named}
use Rattle.record_numbers.proofs.ToldLemmas.{told_is, told_nothing}
use Rattle.record_numbers.proofs.told.told_of.Goals as goal

pub returns-in_ok-told_by-in-Some-2 : goal.returns-in_ok-told_by-in-Some-2
returns-in_ok-told_by-in-Some-2 c =
    let fits : SFits w64 c.args.number = search rules in
    told_is c.args.file.now c.args.number _ _ _ (ap (named c.args.file.now) (sym (to_z-of_z w64 c.args.number fits)) ∙ c.in-Some.ensures.0)
    (sym c.in-Some-2.is ∙ c.in_ok-own.ensures) c.in_ok-told_by-in-Some-2.ensures

pub returns-in-None : goal.returns-in-None
returns-in-None c =
    let fits : SFits w64 c.args.number = search rules in
    told_nothing c.args.file.now c.args.number _ (ap (named c.args.file.now) (sym (to_z-of_z w64 c.args.number fits)) ∙ c.in-Some.ensures.0)
    (sym c.in-None.is ∙ c.in_ok-own.ensures)
