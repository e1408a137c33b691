use Rattle.iges_solid_cmd.proofs.YesLemmas.{book_is_verified, certified_is_verified, upgraded_is_verified}
use Rattle.iges_solid_cmd.proofs.law.written_is_accepted.Goals as goal

pub returns-clause-certified : goal.returns-clause-certified
returns-clause-certified c = certified_is_verified

pub returns-clause-upgraded : goal.returns-clause-upgraded
returns-clause-upgraded c = upgraded_is_verified

pub returns-clause-book : goal.returns-clause-book
returns-clause-book c = book_is_verified
