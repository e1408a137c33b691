use Rattle.std.proofs.Common.{◌≡◌, ◌++◌, drop}
use Rattle.iges_solid_cmd.specs.Texts.{shell_lines_from, show_text}
use Rattle.iges_solid_cmd.proofs.showing.shell_list.Given as goal

-- what is written, and the lines for the shells that are left, are the whole text
abbrev pub invariant-shells : goal.invariant-shells
invariant-shells l = l.out ++ shell_lines_from l.k l.solid (drop l.k l.solid.shells) ≡ show_text l.solid
