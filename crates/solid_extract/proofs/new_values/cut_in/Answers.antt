use Rattle.std.proofs.Common.{◌∙◌, sym}
use Rattle.solid_extract.proofs.KeptValues.{cut_open, cut_closed}
use Rattle.solid_extract.proofs.new_values.cut_in.Goals as goal

pub returns-then-not-is_open : goal.returns-then-not-is_open
returns-then-not-is_open c own olds h =
    cut_closed c.args.renaming.now own olds c.args.marks.now c.args.values.now c.args.place (sym c.is_open.ensures.is ∙ c.if-not-is_open.true) h

pub returns : goal.returns
returns c own olds h =
    cut_open c.args.renaming.now own olds c.args.marks.now c.args.values.now c.renew.new.values c.args.place
    (sym c.is_open.ensures.is ∙ c.if-not-is_open.false) c.renew.ensures h
