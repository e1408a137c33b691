use Rattle.topo_certificate.proofs.LegalLemmas as lemmas
use Rattle.topo_certificate.proofs.law.one_bad_in_part.Goals as goal

pub returns : goal.returns
returns c = lemmas.one_bad_in_part
