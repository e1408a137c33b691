use Rattle.std.specs.Prelude.{option_copied}
use Rattle.std.proofs.Common.{◌∙◌, sym, ap}
use Rattle.mend_commands.proofs.WritableEntries.{held_so}
use Rattle.mend_commands.proofs.writable.recall_entry.Goals as goal

pub returns : goal.returns
returns c = λ r at. held_so c.args.file.now c.args.i r c.unwrap.result.now at (sym (ap option_copied c.unwrap.ensures) ∙ c.entry_at.ensures.entry)
    c.recall_fields.ensures.status c.recall_fields.ensures.label (c.recall_values.ensures r at)
