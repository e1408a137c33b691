-- The answers that are owed of a file.
use Rattle.std.proofs.Common.{ℕ, List, sym, subst}
use Rattle.command_replies.specs.declared.answer.Answer.{Answer}
use Rattle.command_replies.specs.declared.answer.Answer.TheVariants.{Done, No, NoExtract, TooLarge}
use Rattle.command_replies.specs.Due.{Exactly, OfText, text_too_large, text_done}

-- the answers that are owed of a file
abbrev pub IsFileVerdict : Answer → Type 0
IsFileVerdict Done = Unit {0}
IsFileVerdict No = Unit {0}
IsFileVerdict NoExtract = Unit {0}
IsFileVerdict TooLarge = Unit {0}
IsFileVerdict _ = ⊥

pub exactly_so : (a : Answer) (text : List ℕ) → IsFileVerdict a → (b : Answer) (t : List ℕ) → Exactly a text b t → IsFileVerdict b
exactly_so a text verdict b t owed = subst IsFileVerdict (sym owed.0) verdict

pub text_verdict : (text : List ℕ) (a : Answer) (t : List ℕ) → OfText text a t → IsFileVerdict a
text_verdict text a t (text_too_large many) = tt
text_verdict text a t (text_done few) = tt
