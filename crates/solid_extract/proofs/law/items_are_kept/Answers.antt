use Rattle.solid_extract.proofs.NewNumbers.{new_named}
use Rattle.solid_extract.proofs.KeptItems.{items_kept}
use Rattle.solid_extract.proofs.law.items_are_kept.Goals as goal

pub returns-clause-named : goal.returns-clause-named
returns-clause-named c = new_named

pub returns-clause-items : goal.returns-clause-items
returns-clause-items c = items_kept
