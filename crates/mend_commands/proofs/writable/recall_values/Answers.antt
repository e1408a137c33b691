use Rattle.std.specs.Prelude.{option_copied}
use Rattle.std.proofs.Common.{◌∙◌, sym, ap}
use Rattle.mend_commands.proofs.WritableEntries.{held_named, held_unnamed}
use Rattle.mend_commands.proofs.writable.recall_values.Goals as goal

pub returns-in-Some : goal.returns-in-Some
returns-in-Some c = λ r at. held_named c.args.file.now c.args.i _ r _ c.entry_no.ensures (sym (ap option_copied c.in-Some.is) ∙ c.values.ensures)
    c.len-len.ensures.values at

pub returns-in-None : goal.returns-in-None
returns-in-None c = λ r at. held_unnamed c.args.file.now c.args.i _ r c.entry_count-count.ensures.made c.entry_no.ensures
    (sym (ap option_copied c.in-None.is) ∙ c.values.ensures) at
