use Rattle.std.proofs.Common.{◌≡◌, ◌∙◌, Some, rules, slice_get, subst, sym}
use Rattle.std.proofs.lemmas.Option.{same_Some}
use Rattle.solid_data.specs.declared.solid.Shell.{Shell}
use Rattle.solid_faults.specs.Faults.{failing_of}
use Rattle.where_solids.proofs.FirstFailing.{Firsts, first_false}
use Rattle.where_solids.proofs.verdicts.failing_at.Goals as goal

pub returns : goal.returns
returns c h at =
    let x = c.unwrap-faults.result.now in
    let there : slice_get c.args.all.now c.args.k ≡ Some x = search rules in
    let same : c.shell_at-shell.result.now ≡ h = same_Some _ h (sym c.shell_at-shell.ensures.is ∙ at) in
    let found = subst (λ (h : Shell). Firsts (failing_of c.args.solid.now h x) c.first_failing.result) same c.first_failing.ensures in
    first_false c.args.solid.now c.args.k h x c.first_failing.result c.shell_at-shell.ensures.numbered at (c.requires.faults.shell c.args.k h x at there) found
