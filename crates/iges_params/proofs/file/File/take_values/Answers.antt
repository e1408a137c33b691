use Rattle.std.proofs.Common.{◌<◌, length, ap, arith}
use Rattle.iges_params.specs.Contents.{Contents}
use Rattle.iges_params.proofs.Emptied.{emptied}
use Rattle.iges_params.proofs.file.File.take_values.Goals as goal

pub invariant_of-self : goal.invariant_of-self
invariant_of-self c =
    let inside : Contents = record { start = c.self.inside.start.items; global = c.self.inside.global; entries = c.self.inside.entries } in
    let within : c.args.i < length inside.entries = omega (arith, c.requires, ap (λ (f : Contents). length f.entries) c.self.view_is) in
    emptied inside c.args.i c.take_values.new.self c.self.invariant within c.take_values.ensures.left
