use Rattle.std.proofs.Common.{◌≡◌, flat_map, take}
use Rattle.solid_data.specs.SolidData.{shell_vertices}
use Rattle.edge_uses.specs.Before.{above_of}
use Rattle.edge_uses.proofs.apart.above_shells.Given as goal

abbrev pub invariant-shells : goal.invariant-shells
invariant-shells l = l.above ≡ above_of (flat_map (shell_vertices l.solid) (take l.k l.solid.shells))
