use Rattle.std.proofs.Common.{◌∙◌, ap, sym, Bool, List}
use Rattle.solid_extract.specs.NewValues.{is_open}
use Rattle.solid_extract.proofs.KeptValues.{renamed_open, renamed_closed}
use Rattle.solid_extract.proofs.new_values.rename_in.Goals as goal

pub returns-then-not-open : goal.returns-then-not-open
returns-then-not-open c own olds ec h =
    renamed_closed c.args.renaming.now own olds c.args.marks.now.items c.set_mark.new.marks.items c.args.values.now c.args.place ec
    (ap (λ (ms : List Bool). is_open ms c.args.place) (sym c.as_slice.ensures.value) ∙ (sym c.is_open-open.ensures.is ∙ c.if-not-open.true))
    c.set_mark.ensures h

pub returns : goal.returns
returns c own olds ec h =
    renamed_open c.args.renaming.now own olds c.args.marks.now.items c.set_mark.new.marks.items c.args.values.now c.renew.new.values c.args.place ec
    (ap (λ (ms : List Bool). is_open ms c.args.place) (sym c.as_slice.ensures.value) ∙ (sym c.is_open-open.ensures.is ∙ c.if-not-open.false))
    c.set_mark.ensures c.renew.ensures h
