use Rattle.std.proofs.Common.{sym, ◌∙◌}
use Rattle.std.proofs.lemmas.Result.{IfOk-weaker}
use Rattle.where_command.proofs.Outcomes.{asked_owed, usage_owed}
use Rattle.where_command.proofs.command.reply_to.Goals as goal

pub returns-in-Some-clause-found : goal.returns-in-Some-clause-found
returns-in-Some-clause-found g c = IfOk-weaker c.source_reply.result _ _ (λ reply owed. asked_owed _ _ reply _ (sym c.asked_of.ensures ∙ c.in-Some.is) owed)
    c.source_reply.ensures.found

pub returns-in_ok-usage_reply-in-None-clause-found : goal.returns-in_ok-usage_reply-in-None-clause-found
returns-in_ok-usage_reply-in-None-clause-found g c = usage_owed _ _ c.in_ok-usage_reply-in-None.field-0 (sym c.asked_of.ensures ∙ c.in-None.is)
    c.in_ok-usage_reply-in-None.ensures
