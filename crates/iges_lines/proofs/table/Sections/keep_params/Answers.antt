use Rattle.iges_lines.proofs.Kept.{params_cut}
use Rattle.iges_lines.proofs.table.Sections.keep_params.Goals as goal

pub invariant_of-self : goal.invariant_of-self
invariant_of-self c = rw c.keep_params.ensures (params_cut c.self.inside.table c.args.count c.self.invariant)
