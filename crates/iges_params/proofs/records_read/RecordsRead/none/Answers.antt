use Rattle.iges_params.proofs.EntryPass.{none_read}
use Rattle.iges_params.proofs.records_read.RecordsRead.none.Goals as goal

pub returns-clause-read : goal.returns-clause-read
returns-clause-read c = λ above params d ps e. none_read above params d ps c.args.count e _ (c.in_ok-with_capacity.ensures {u = tt}).items
