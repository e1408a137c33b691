-- What is owed is owed of equal answers and texts.
use Rattle.std.proofs.Common.{◌≡◌, ℕ, List, sym, subst}
use Rattle.command_replies.specs.declared.answer.Answer.{Answer}
use Rattle.command_replies.specs.Due.{Owed}

pub owed_so : (owed : Owed) (a b : Answer) (t u : List ℕ) → owed a t → b ≡ a → u ≡ t → owed b u
owed_so owed a b t u due answer text = subst (λ (c : Answer). owed c u) (sym answer) (subst (owed a) (sym text) due)
