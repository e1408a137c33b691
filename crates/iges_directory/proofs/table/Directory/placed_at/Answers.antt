use Rattle.std.proofs.Common.{◌<◌, length, Some, sym, ap, ◌∙◌, arith}
use Rattle.std.proofs.lemmas.Option.{slice_get-get_or}
use Rattle.iges_directory.specs.declared.entry.Placed.{Placed}
use Rattle.iges_directory.proofs.table.Directory.placed_at.Goals as goal

pub returns-clause-bounded : goal.returns-clause-bounded
returns-clause-bounded c =
    let within : c.args.i < length c.self.inside.entries.items = omega arith in
    c.self.invariant.each c.args.i c.index.result.now
    (slice_get-get_or c.self.inside.entries.items c.args.i c.index.result.now within ∙ ap (λ (p : Placed). Some p) (sym c.index.ensures))
