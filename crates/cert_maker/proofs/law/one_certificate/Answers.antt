use Rattle.cert_maker.proofs.OneText.{one_text}
use Rattle.cert_maker.proofs.law.one_certificate.Goals as goal

pub returns : goal.returns
returns c = one_text
