use Rattle.std.proofs.Common.{arith, ap, sym, ◌∙◌, ◌≡◌, option_copied}
use Rattle.std.specs.Prelude.{Some, slice_get}
use Rattle.cert_state.proofs.UseSizes.{loops_within, loops_there}
use Rattle.topo_certificate.proofs.line_checker.loops_at.Goals as goal

pub loop_count-requires : goal.loop_count-requires
loop_count-requires c =
    let there : slice_get c.args.solid.now.shells c.args.shell ≡ Some c.unwrap.result.now = sym c.shell.ensures.item ∙ ap option_copied c.unwrap.ensures in
    omega (arith, c.shell.ensures.numbered.few_loops, loops_within c.args.solid.now c.args.shell c.unwrap.result.now there)

pub returns : goal.returns
returns c = c.loop_count.ensures ∙ loops_there c.args.solid.now c.args.shell c.unwrap.result.now (sym c.shell.ensures.item ∙ ap option_copied c.unwrap.ensures)
