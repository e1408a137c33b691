use Rattle.std.proofs.Common.{arith}
use Rattle.solid_faults.proofs.Definite.{few_shells}
use Rattle.where_solids.proofs.telling.put_shells_rest.Goals as goal

pub failing_shells-requires : goal.failing_shells-requires
failing_shells-requires c = omega (arith, few_shells c.args.solid.now c.recall_numbering.ensures.numbered, c.requires.faults.each)
