-- Replies of an answer and a text that are owed.
use Rattle.std.proofs.Common.{◌≡◌, ℕ, List, [], length, Option, Result}
use Rattle.std.specs.Prelude.{◌<◌, IfOk}
use Rattle.std.proofs.lemmas.Result.{IfOk-weaker}
use Rattle.command_replies.specs.declared.answer.Answer.{Answer}
use Rattle.command_replies.specs.declared.answer.Answer.TheVariants.{TooLarge}
use Rattle.command_replies.specs.declared.reply.Reply.{Reply}
use Rattle.command_replies.specs.Due.{Owed}
use Rattle.command_replies.specs.Replies.{IsReply, IsTooLarge}
use Rattle.command_replies.proofs.Owing.{owed_so}

-- the reply, where there is one, has the answer and the text that are owed
pub reply_owed : {E : Type 0} (owed : Owed) (a : Answer) (t : List ℕ) (r : Result Reply E) → owed a t → IfOk r (λ reply. (reply.answer ≡ a) × (reply.text ≡ t))
    → IfOk r (λ reply. owed reply.answer reply.text)
reply_owed owed a t r is = IfOk-weaker r _ _ (λ reply same. owed_so owed a reply.answer t reply.text is same.0 same.1)

-- the reply to too many bytes is owed where too many are answered so
pub too_large_owed : (limit : ℕ) (owed_of : List ℕ → Owed) (left : Option (List ℕ)) (reply : Reply)
    → ((bytes : List ℕ) → limit < length bytes → owed_of bytes TooLarge []) → IsReply (IsTooLarge limit) left reply → IsReply owed_of left reply
too_large_owed limit owed_of left reply row is = record {
  bytes = is.bytes;
  told = is.told;
  owed = owed_so (owed_of is.bytes) TooLarge reply.answer [] reply.text (row is.bytes is.owed.0) is.owed.1.0 is.owed.1.1;
}
