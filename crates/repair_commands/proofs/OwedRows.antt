-- Replies that are owed, row by row.
use Rattle.std.specs.Prelude.{◌≢◌, IfOk}
use Rattle.std.proofs.Common.{◌≡◌, ℕ, List, Result}
use Rattle.command_replies.specs.declared.answer.Answer.TheVariants.{Done, No}
use Rattle.command_replies.specs.declared.reply.Reply.{Reply}
use Rattle.command_replies.proofs.Replying.{reply_owed}
use Rattle.repair_commands.specs.declared.request.LineCommand.TheVariants.{Layout}
use Rattle.repair_commands.specs.Due.{OfLayout, in_layout, not_in_layout}
use Rattle.repair_commands.specs.Texts.{changes_text, in_layout_line}

module _ {E : Type 0} (bytes text : List ℕ) (r : Result Reply E) where
  pub in_layout_owed : bytes ≡ text → IfOk r (λ reply. (reply.answer ≡ Done) × (reply.text ≡ in_layout_line))
      → IfOk r (λ reply. OfLayout bytes text Layout reply.answer reply.text)
  in_layout_owed same is = reply_owed (OfLayout bytes text Layout) Done in_layout_line r (in_layout same) is

  pub not_in_layout_owed : bytes ≢ text → IfOk r (λ reply. (reply.answer ≡ No) × (reply.text ≡ changes_text bytes))
      → IfOk r (λ reply. OfLayout bytes text Layout reply.answer reply.text)
  not_in_layout_owed other is = reply_owed (OfLayout bytes text Layout) No (changes_text bytes) r (not_in_layout other) is
