use Rattle.std.proofs.Common.{◌≡◌, Some, rules, slice_get}
use Rattle.where_solids.proofs.shell_texts.put_shell.Goals as goal

pub put_described-put-requires-clause-faults : goal.put_described-put-requires-clause-faults
put_described-put-requires-clause-faults c h at =
    let there : slice_get c.args.view.now.all.now c.args.k ≡ Some c.in-Some-get.faults.now = search rules in
    c.requires.faults.shell c.args.k h c.in-Some-get.faults.now at there
