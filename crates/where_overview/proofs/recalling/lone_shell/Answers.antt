use Rattle.std.proofs.Common.{sym, ◌∙◌, refl}
use Rattle.where_overview.proofs.LoneShells.{lone_found}
use Rattle.where_overview.proofs.recalling.lone_shell.Goals as goal

pub returns : goal.returns
returns c =
    let kind = c.if-not-is_solid.ensures refl in
    lone_found c.args.file.now c.args.no.0 c.in_ok-entry.entry.now c.in_ok-values.field-0.now c.in_ok-record.record c.item.result
    c.in_ok-entry.ensures.named c.in_ok-values.ensures kind.0 kind.1 c.in_ok-record.ensures.some c.in_ok-record.ensures.read
    (sym c.len.ensures ∙ c.if-len-ne1.false) c.item.ensures
