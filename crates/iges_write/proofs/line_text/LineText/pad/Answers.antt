use Rattle.std.proofs.Common.{◌≡◌, ◌∙◌, ap, arith, length, rules}
use Rattle.iges_write.specs.Filled.{padded}
use Rattle.iges_write.proofs.LineTexts.{wider_fits, wider_is}
use Rattle.iges_write.proofs.line_text.LineText.pad.Goals as goal

pub invariant_of-self : goal.invariant_of-self
invariant_of-self c =
    let long : length c.self.inside.bytes ≡ 96 = search rules in
    wider_fits c.self.inside.bytes c.self.inside.len c.args.width c.self.invariant long (omega arith) c.requires

pub returns-then-self-width-clause-is : goal.returns-then-self-width-clause-is
returns-then-self-width-clause-is c =
    let long : length c.self.inside.bytes ≡ 96 = search rules in
    wider_is c.self.inside.bytes c.self.inside.len c.args.width c.self.invariant long (omega arith) c.requires ∙ ap (padded c.args.width) c.self.view_is
