use Rattle.open_certificate.proofs.Borders.{borders_are_cycles as law}
use Rattle.open_certificate.proofs.law.borders_are_cycles.Goals as goal

pub returns : goal.returns
returns c = law
