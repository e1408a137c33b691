use Rattle.solid_extract.proofs.KeptFile.{kept_faultless, kept_as}
use Rattle.solid_extract.proofs.extraction.extraction_by.Goals as goal

pub kept_file-requires-clause-faultless : goal.kept_file-requires-clause-faultless
kept_file-requires-clause-faultless c = kept_faultless c.args.file.now c.args.no.0 c.args.renaming.now c.requires

pub kept_file-requires-clause-values : goal.kept_file-requires-clause-values
kept_file-requires-clause-values c = c.requires.few

pub returns-clause-found : goal.returns-clause-found
returns-clause-found c = kept_as c.args.file.now c.args.no.0 c.args.renaming.now c.requires c.in_ok-new.new c.number.result.0
    c.in_ok-new.ensures c.number.ensures
