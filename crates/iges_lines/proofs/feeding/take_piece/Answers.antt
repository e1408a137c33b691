use Rattle.iges_lines.proofs.Growing.{extends_more}
use Rattle.iges_lines.proofs.feeding.take_piece.Goals as goal

pub returns-in-Ok-clause-extends : goal.returns-in-Ok-clause-extends
returns-in-Ok-clause-extends c = extends_more _ _ _ (c.in_ok-take_joined.ensures {u = tt}).extends (c.in-Ok.ensures {u = tt}).extends

pub returns-in-Err-clause-extends : goal.returns-in-Err-clause-extends
returns-in-Err-clause-extends c = extends_more _ _ _ (c.in_ok-take_joined.ensures {u = tt}).extends (c.in-Err.ensures {u = tt}).extends
