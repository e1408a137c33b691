use Rattle.std.proofs.Common.{arith, sym, ap, ◌∙◌, option_copied}
use Rattle.cert_state.proofs.UseSizes.{few_shells, shells_split, shells_counted, uses_few, shells_past}
use Rattle.cert_state.proofs.uses.use_count.Goals as goal

pub overflow_cast-k : goal.overflow_cast-k
overflow_cast-k c = omega (arith, few_shells c.args.solid.now c.shell_count-k-end.ensures.numbered, c.shell_count-k-end.ensures)

pub uses_of_shell-count-requires : goal.uses_of_shell-count-requires
uses_of_shell-count-requires c =
    let split = shells_split c.args.solid.now.shells c.shells.k c.unwrap.result.now (sym c.shell.ensures.item ∙ ap option_copied c.unwrap.ensures) in
    omega (arith, uses_few c.args.solid.now c.shell_count-k-end.ensures.numbered, split, c.shells.invariant)

pub overflow_add-count : goal.overflow_add-count
overflow_add-count c =
    let split = shells_split c.args.solid.now.shells c.shells.k c.unwrap.result.now (sym c.shell.ensures.item ∙ ap option_copied c.unwrap.ensures) in
    omega (arith, uses_few c.args.solid.now c.shell_count-k-end.ensures.numbered, split, c.shells.invariant, c.uses_of_shell-count.ensures)

pub shells-preserved : goal.shells-preserved
shells-preserved c =
    let split = shells_split c.args.solid.now.shells c.shells.k c.unwrap.result.now (sym c.shell.ensures.item ∙ ap option_copied c.unwrap.ensures) in
    omega (arith, split, c.shells.invariant, c.uses_of_shell-count.ensures)

pub returns : goal.returns
returns c = omega (
  arith,
  shells_counted c.args.solid.now.shells,
  c.shells.invariant,
  shells_past c.args.solid.now.shells c.shells.k
      (omega (arith, c.shell_count-k-end.ensures)),
)
