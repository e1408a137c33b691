use Rattle.std.proofs.Common.{ap, subst, ◌∙◌, inr}
use Rattle.edge_uses.specs.ShellRows.{ShellRows}
use Rattle.solid_faults.specs.Fans.{AreFans, unlinked_of}
use Rattle.solid_faults.proofs.Assembled.{some_unpaired, all_paired_none}
use Rattle.solid_faults.proofs.failing.judge_links.Goals as goal

pub returns-in-Err-Unpaired : goal.returns-in-Err-Unpaired
returns-in-Err-Unpaired c =
    let first = rw c.in-Err-Unpaired.field-0-is at c.in-Err-Unpaired.ensures.fault in
    inr (some_unpaired c.args.rows.now c.in-Err-Unpaired.field-0-0.0 first)

pub returns-in_ok-linking-in-Ok : goal.returns-in_ok-linking-in-Ok
returns-in_ok-linking-in-Ok c = (
  c.if-gap.false,
  all_paired_none c.args.rows.now c.in-Ok.ensures.paired,
  subst (λ (d : ShellRows). AreFans d c.in_ok-linking-in-Ok.linking.leasts) c.in-Ok.ensures.rows c.in_ok-linking-in-Ok.ensures.fans,
  c.in_ok-linking-in-Ok.ensures.unlinked ∙ ap (λ (d : ShellRows). unlinked_of d c.in_ok-linking-in-Ok.linking.leasts) c.in-Ok.ensures.rows,
)
