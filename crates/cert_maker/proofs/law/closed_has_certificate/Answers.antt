use Rattle.cert_maker.proofs.SomeText.{some_text}
use Rattle.cert_maker.proofs.law.closed_has_certificate.Goals as goal

pub returns : goal.returns
returns c = some_text
