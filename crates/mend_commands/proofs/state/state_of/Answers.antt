use Rattle.std.proofs.lemmas.Result.{IfOk-weaker}
use Rattle.mend_commands.proofs.StateLemmas.{state_so}
use Rattle.mend_commands.proofs.state.state_of.Goals as goal

pub returns-in-Ok : goal.returns-in-Ok
returns-in-Ok c =
    IfOk-weaker c.shell_state.result _ _ (λ x is. state_so c.args.file.now c.args.no c.in-Ok.solid x c.in-Ok.ensures.solid c.in-Ok.ensures.holds is)
    c.shell_state.ensures
