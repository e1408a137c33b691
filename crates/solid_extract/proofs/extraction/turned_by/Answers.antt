use Rattle.solid_extract.proofs.KeptFile.{kept_faultless, kept_rising, kept_as}
use Rattle.solid_extract.proofs.extraction.turned_by.Goals as goal

pub turned_into_kept-requires-clause-faultless : goal.turned_into_kept-requires-clause-faultless
turned_into_kept-requires-clause-faultless c = kept_faultless c.args.file c.args.no.0 c.args.renaming.now c.requires

pub turned_into_kept-requires-clause-rising : goal.turned_into_kept-requires-clause-rising
turned_into_kept-requires-clause-rising c = kept_rising c.args.file c.args.no.0 c.args.renaming.now c.requires

pub turned_into_kept-requires-clause-values : goal.turned_into_kept-requires-clause-values
turned_into_kept-requires-clause-values c = c.requires.few

pub returns-clause-found : goal.returns-clause-found
returns-clause-found c = kept_as c.args.file c.args.no.0 c.args.renaming.now c.requires c.in_ok-new.new c.number.result.0
    c.in_ok-new.ensures c.number.ensures
