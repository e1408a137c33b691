use Rattle.std.proofs.Common.{◌≤◌, arith, take, ap, ◌∙◌}
use Rattle.std.proofs.lemmas.List.{take-take}
use Rattle.iges_base.proofs.short_text.ShortText.of_front.Goals as goal

pub returns : goal.returns
returns c =
    let few : c.args.len ≤ 14 = omega (arith, c.if-len-gt-SHORT.false) in
    ap (take c.args.len) c.in-Some.ensures.cases.0 ∙ take-take c.args.len 14 c.args.text.now few
