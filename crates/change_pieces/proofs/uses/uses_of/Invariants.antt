use Rattle.std.proofs.Common.{◌≡◌, ◌++◌, drop, flat_map}
use Rattle.solid_data.specs.SolidData.{shell_uses}
use Rattle.change_pieces.proofs.uses.uses_of.Given as goal

abbrev pub invariant-shells : goal.invariant-shells
invariant-shells l = l.out.items ++ flat_map shell_uses (drop l.i l.shells) ≡ flat_map shell_uses l.shells
