use Rattle.layout_laws.proofs.Shifted.{shifted}
use Rattle.layout_laws.proofs.law.shifted_line_is_refused.Goals as goal

pub returns : goal.returns
returns c = shifted
