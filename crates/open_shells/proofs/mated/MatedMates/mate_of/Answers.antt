use Rattle.open_certificate.proofs.Fans.{lone_no_mate}
use Rattle.open_shells.proofs.mated.MatedMates.mate_of.Goals as goal

pub returns-in-None : goal.returns-in-None
returns-in-None c = λ m. lone_no_mate c.args.self.now c.args.r.0 m c.in-None.ensures.0 c.in-None.ensures.1 c.in-None.ensures.2
