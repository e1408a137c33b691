use Rattle.std.proofs.Common.{refl}
use Rattle.open_certificate.proofs.Checking.{begins}
use Rattle.open_certificate.proofs.checker.OpenChecker.new.Goals as goal

pub returns-clause-begun : goal.returns-clause-begun
returns-clause-begun c = begins _ refl refl refl c.in_ok-shell.ensures.tells
