use Rattle.std.proofs.Common.{◌≤◌, length, ap, arith}
use Rattle.solid_extract.proofs.KeptValues.{names_within}
use Rattle.solid_extract.proofs.new_values.new_values.Goals as goal

pub push_groups-requires : goal.push_groups-requires
push_groups-requires c =
    let few : length c.args.values ≤ 164000000 = c.requires.few in
    omega (arith, ap length c.in_ok-names.ensures.is, names_within c.args.file.now c.args.values c.args.shape.now.names.count c.args.shape.now.names.before few)
