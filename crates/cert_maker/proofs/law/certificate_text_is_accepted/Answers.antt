use Rattle.cert_maker.proofs.OneText.{text_accepted}
use Rattle.cert_maker.proofs.law.certificate_text_is_accepted.Goals as goal

pub returns : goal.returns
returns c = text_accepted
