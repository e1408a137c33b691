use Rattle.open_certificate.proofs.Fans.{lone_no_mate}
use Rattle.open_shells.proofs.bordering.border_at.Goals as goal

pub returns-in-Some-clause-none : goal.returns-in-Some-clause-none
returns-in-Some-clause-none c = λ e border. lone_no_mate c.args.mated.now c.args.r c.in-Some.field-0 border.0 border.1 border.2 c.in-Some.ensures
