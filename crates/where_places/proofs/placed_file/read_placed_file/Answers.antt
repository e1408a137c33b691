use Rattle.where_places.proofs.PlacedFiles.{same_lines}
use Rattle.where_places.proofs.placed_file.read_placed_file.Goals as goal

pub returns-in-Ok-clause-found : goal.returns-in-Ok-clause-found
returns-in-Ok-clause-found c = c.placed_file.ensures.found c.args.bytes.now (c.in-Ok.ensures {u = tt}).found
    (λ s h. same_lines s c.in-Ok.lines ((c.in-Ok.ensures {u = tt}).only s h))
