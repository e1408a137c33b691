use Rattle.std.proofs.Common.{◌≡◌, Some, arith, rules, slice_get}
use Rattle.std.proofs.lemmas.Result.{on_ok_weaker}
use Rattle.iges_solid_cmd.proofs.ShellLines.{few_loops, shell_put}
use Rattle.iges_solid_cmd.proofs.showing.put_shell_at.Goals as goal

pub put_shell-requires : goal.put_shell-requires
put_shell-requires c =
    let there : Some c.unwrap-shell.result.now ≡ slice_get c.args.solid.now.shells c.args.k = search rules in
    omega (arith, few_loops c.args.solid.now c.args.k c.unwrap-shell.result.now c.shell.ensures.numbered there)

pub returns : goal.returns
returns c =
    let there : Some c.unwrap-shell.result.now ≡ slice_get c.args.solid.now.shells c.args.k = search rules in
    on_ok_weaker c.put_shell.result
    (λ grown. shell_put c.args.solid.now c.args.k c.from.result c.unwrap-shell.result.now c.in_ok-counts.counts c.args.out.now c.put_shell.new.out there
    c.in_ok-counts.ensures c.from.ensures grown)
    c.put_shell.ensures
