use Rattle.where_places.proofs.PlacedFiles.{placed_is}
use Rattle.where_places.proofs.placed_file.placed_file.Goals as goal

pub returns-clause-found : goal.returns-clause-found
returns-clause-found c = λ bytes sectioned one. placed_is bytes c.in_ok-file.file c.args.lines c.in_ok-places.places
    (c.in_ok-file.ensures.found bytes sectioned) one c.in_ok-places.ensures
