use Rattle.command_replies.proofs.ShortNumbers.{unread_unfit}
use Rattle.command_replies.proofs.number.number_in.Goals as goal

pub returns-in_default : goal.returns-in_default
returns-in_default c = unread_unfit c.args.word.now c.args.digits c.args.least c.args.greatest c.in_default.field-0 c.ranges.greatest.fits
    (c.in_default.ensures {u = tt}).value.0
