use Rattle.std.proofs.Common.{◌≡◌, ◌++◌, drop, flat_map}
use Rattle.where_solids.specs.Lines.{line_at}
use Rattle.where_solids.proofs.shell_texts.put_shell_lines.Given as goal

abbrev pub invariant-shells : goal.invariant-shells
invariant-shells l =
    l.out ++ flat_map (line_at l.view.solid.now l.view.all.now) (drop l.i l.shells) ≡ l.fn.out ++ flat_map (line_at l.view.solid.now l.view.all.now) l.shells
