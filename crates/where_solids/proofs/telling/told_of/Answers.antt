use Rattle.std.proofs.Common.{◌∙◌, refl}
use Rattle.where_solids.proofs.ToldSolids.{told_shells}
use Rattle.where_solids.proofs.telling.told_of.Goals as goal

pub returns : goal.returns
returns c =
    let rest = c.in_ok-put_shells_rest.ensures in
    told_shells c.args.listing c.args.placed.now c.args.no c.args.solid.now c.verdict-verdict.result c.args.all.now c.in_ok-page.page.out c.put_verdict.new.out
    c.into_bytes.result _
    c.requires.solid c.requires.placed c.requires.faults c.verdict-verdict.ensures (record { remedies = rest.0; hint = rest.1; faces = rest.2; is_hint = rest.3; rest_is = refl })
    c.in_ok-page.ensures.out c.in_ok-put_verdict.ensures (c.into_bytes.ensures ∙ rest.4)
