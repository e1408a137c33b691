use Rattle.open_shells.proofs.OnceMates.{once_one}
use Rattle.open_shells.proofs.mated.MatedMates.table.Goals as goal

pub returns-clause-one : goal.returns-clause-one
returns-clause-one c = once_one c.args.self.now c.rows.ensures.whole
