use Rattle.reorient_laws.proofs.Again as lemmas
use Rattle.reorient_laws.proofs.law.reoriented_again.Goals as goal

pub returns : goal.returns
returns c = lemmas.reoriented_again
