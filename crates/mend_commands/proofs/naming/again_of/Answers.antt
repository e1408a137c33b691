use Rattle.mend_commands.proofs.StateLemmas.{still_false}
use Rattle.mend_commands.proofs.naming.again_of.Goals as goal

pub returns-in-Misplaced-clause-none : goal.returns-in-Misplaced-clause-none
returns-in-Misplaced-clause-none c =
    still_false c.args.file.now c.in_ok-made.made.file c.args.no c.args.failing c.in-Misplaced.field-0 c.in_ok-made.ensures.file
    (rw c.in-Misplaced.is at c.in_ok-state_of.ensures)
