use Rattle.std.proofs.lemmas.List.Sorted.{searched}
use Rattle.solid_data.proofs.Members.{rises}
use Rattle.solid_data.proofs.CellSteps.{rise_least, searched_none}
use Rattle.solid_data.proofs.cells.place_of.Goals as goal

pub returns-in-Err : goal.returns-in-Err
returns-in-Err c =
    let found = rw c.in-Err.is at
    (searched c.args.numbers.now c.args.n _ c.binary_search.ensures.position (rise_least c.args.numbers.now (rises c.args.numbers.now c.requires))) in
    searched_none c.args.numbers.now c.args.n c.in-Err.field-0 found.1 found.2
