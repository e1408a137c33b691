use Rattle.layout_laws.proofs.Reading.{stays_unchanged}
use Rattle.layout_laws.proofs.Unchanged.{unchanged_stays}
use Rattle.layout_laws.proofs.law.unchanged_file_stays.Goals as goal

pub returns : goal.returns
returns c = λ bytes out made. (λ is. stays_unchanged bytes out made is, λ none. unchanged_stays bytes out made none)
