use Rattle.std.proofs.Common.{◌≡◌, ◌∙◌, rules, length, vec_len}
use Rattle.list_compact.proofs.RowSteps.{rows_count}
use Rattle.list_compact.proofs.entry_rows.EntryRows.len.Goals as goal

pub returns : goal.returns
returns g c =
    let long : vec_len c.self.inside.ends ≡ length c.self.inside.ends.items = search rules in
    c.len.ensures ∙ (long ∙ rows_count c.self.inside.ends.items c.self.inside.items.items c.args.self.now c.self.view_is)
