use Rattle.iges_write.proofs.Made.{can_be_made}
use Rattle.iges_write.proofs.law.every_read_file_can_be_made.Goals as goal

pub returns : goal.returns
returns c = can_be_made
