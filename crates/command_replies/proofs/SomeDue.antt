-- Of bytes that are no file, or a file, some answer is owed.
use Rattle.std.proofs.Common.{◌≤◌, length, inl, inr, ℕ, List, [], arith}
use Rattle.std.specs.Prelude.{◌<◌}
use Rattle.iges_base.specs.declared.TheConstants.{FILE_LIMIT}
use Rattle.iges_params.specs.Contents.{Contents}
use Rattle.iges_params.specs.IsFile.{IsFile}
use Rattle.iges_params.specs.Refusal.{HasOneReading}
use Rattle.iges_params.proofs.FileExact.{one_reading}
use Rattle.solid_data.proofs.Decisions.{Decided, decided_within}
use Rattle.cert_text.specs.declared.TheConstants.{CERT_LIMIT}
use Rattle.command_replies.specs.declared.answer.Answer.{Answer}
use Rattle.command_replies.specs.declared.answer.Answer.TheVariants as answer
use Rattle.command_replies.specs.Texts.{bad_file_line}
use Rattle.command_replies.specs.Due.{Owed, file_too_large, bad_file, OfFile, OfText, text_too_large, text_done}

-- some answer and text are owed
abbrev pub IsSome : Owed → Type 0
IsSome owed = (a : Answer) × (t : List ℕ) × owed a t

pub longer : (n limit : ℕ) → ¬ (n ≤ limit) → limit < n
longer n limit h = omega (arith, h)

pub text_due : (text : List ℕ) → IsSome (OfText text)
text_due text = by_limit (decided_within (length text) CERT_LIMIT)
  where
    by_limit : Decided (length text ≤ CERT_LIMIT) → IsSome (OfText text)
    by_limit (inl few) = (answer.Done, text, text_done few)
    by_limit (inr more) = (answer.TooLarge, [], text_too_large (longer (length text) CERT_LIMIT more))

pub file_due : (bytes : List ℕ) (owed : Contents → Owed) → ((f : Contents) → length bytes ≤ FILE_LIMIT → IsFile bytes f → IsSome (owed f))
    → IsSome (OfFile bytes owed)
file_due bytes owed each = by_limit (decided_within (length bytes) FILE_LIMIT) (one_reading bytes)
  where
    by_limit : Decided (length bytes ≤ FILE_LIMIT) → HasOneReading bytes → IsSome (OfFile bytes owed)
    by_limit (inr more) reading = (answer.TooLarge, [], inl (file_too_large (longer (length bytes) FILE_LIMIT more)))
    by_limit (inl few) (inl (f, only, never)) = let due = each f few only.0 in (due.0, due.1, inr (few, f, only.0, due.2))
    by_limit (inl few) (inr (fault, only, never)) = (answer.BadFile, bad_file_line fault, inl (bad_file few fault only.0))
