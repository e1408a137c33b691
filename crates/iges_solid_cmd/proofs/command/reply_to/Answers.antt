use Rattle.std.proofs.Common.{sym, ◌∙◌}
use Rattle.std.proofs.lemmas.Result.{IfOk-weaker}
use Rattle.iges_solid_cmd.proofs.FormWords.{reads, reads_too, sized}
use Rattle.iges_solid_cmd.proofs.Outcomes.{command_owed, usage_owed}
use Rattle.iges_solid_cmd.proofs.command.reply_to.Goals as goal

pub returns-in-Some-clause-found : goal.returns-in-Some-clause-found
returns-in-Some-clause-found g c =
    IfOk-weaker c.command_reply.result _ _ (λ reply owed. command_owed _ _ _ reply _ (sym c.command_of.ensures ∙ c.in-Some.is) owed) c.command_reply.ensures.found

pub returns-in-None-clause-found : goal.returns-in-None-clause-found
returns-in-None-clause-found g c = IfOk-weaker c.usage_reply.result _ _ (λ reply usage. usage_owed _ _ _ reply (sym c.command_of.ensures ∙ c.in-None.is) usage)
    c.usage_reply.ensures.found

pub command_reply-requires : goal.command_reply-requires
command_reply-requires g c = record { size = sized c.args.words.now _ (sym c.command_of.ensures ∙ c.in-Some.is); file = c.requires.file; cert = c.requires.cert }

pub returns-in-Some-clause-whole : goal.returns-in-Some-clause-whole
returns-in-Some-clause-whole g c read = c.command_reply.ensures.whole (sym (reads c.args.words.now _ (sym c.command_of.ensures ∙ c.in-Some.is)) ∙ read)

pub returns-in-Some-clause-cert_whole : goal.returns-in-Some-clause-cert_whole
returns-in-Some-clause-cert_whole g c read =
    c.command_reply.ensures.cert_whole (sym (reads_too c.args.words.now _ (sym c.command_of.ensures ∙ c.in-Some.is)) ∙ read)

pub returns-in-Some-clause-count : goal.returns-in-Some-clause-count
returns-in-Some-clause-count g c = rw (reads_too c.args.words.now _ (sym c.command_of.ensures ∙ c.in-Some.is)) c.command_reply.ensures.count

pub returns-in-Some-clause-reads : goal.returns-in-Some-clause-reads
returns-in-Some-clause-reads g c fault = reads c.args.words.now _ (sym c.command_of.ensures ∙ c.in-Some.is) ∙ c.command_reply.ensures.reads fault

pub returns-in-Some-clause-unread : goal.returns-in-Some-clause-unread
returns-in-Some-clause-unread g c unread = c.command_reply.ensures.unread (sym (reads c.args.words.now _ (sym c.command_of.ensures ∙ c.in-Some.is)) ∙ unread)

pub returns-in-Some-clause-cert_unread : goal.returns-in-Some-clause-cert_unread
returns-in-Some-clause-cert_unread g c unread =
    c.command_reply.ensures.cert_unread (sym (reads_too c.args.words.now _ (sym c.command_of.ensures ∙ c.in-Some.is)) ∙ unread)
