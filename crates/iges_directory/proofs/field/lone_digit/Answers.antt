use Rattle.std.proofs.Common.{refl}
use Rattle.iges_directory.proofs.LoneDigits.{digit_above}
use Rattle.iges_directory.proofs.field.lone_digit.Goals as goal

pub returns-then-above-lt10 : goal.returns-then-above-lt10
returns-then-above-lt10 c = digit_above c.args.word _ c.ranges.word.fits refl c.if-above-lt10.true
