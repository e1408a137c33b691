use Rattle.std.proofs.Common.{arith}
use Rattle.iges_params.proofs.Pointers.{behind_space_some}
use Rattle.iges_params.proofs.pointer.number_behind_spaces.Goals as goal

pub returns : goal.returns
returns c = behind_space_some c.args.word c.short_number.result c.ranges.word.fits (omega arith) c.short_number.ensures
