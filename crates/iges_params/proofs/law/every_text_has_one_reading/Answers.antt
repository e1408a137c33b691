use Rattle.iges_params.proofs.FileExact.{one_reading}
use Rattle.iges_params.proofs.law.every_text_has_one_reading.Goals as goal

pub returns : goal.returns
returns c bytes = one_reading bytes
