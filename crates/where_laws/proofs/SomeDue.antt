-- Whatever the words and the bytes are, some answer is owed.
use Rattle.std.specs.Prelude.{◌≡◌, ◌≤◌, ℕ, List, [], length, Option, Some, None, MatchOption}
use Rattle.std.proofs.Common.{refl, inl, inr}
use Rattle.iges_base.specs.declared.TheConstants.{FILE_LIMIT}
use Rattle.iges_params.specs.Contents.{Contents}
use Rattle.iges_params.specs.IsFile.{IsFile}
use Rattle.iges_params.specs.Refusal.{HasOneReading}
use Rattle.iges_params.proofs.FileExact.{one_reading}
use Rattle.iges_write.proofs.Made.{can_be_made}
use Rattle.solid_data.proofs.Decisions.{Decided, decided_within}
use Rattle.command_replies.specs.declared.answer.Answer.{Answer}
use Rattle.command_replies.specs.declared.answer.Answer.TheVariants as answer
use Rattle.command_replies.specs.Due.{Exactly}
use Rattle.command_replies.proofs.SomeDue.{IsSome, longer}
use Rattle.where_places.specs.declared.placed_file.PlacedFile.{PlacedFile}
use Rattle.where_places.specs.Places.{places_of}
use Rattle.where_places.specs.PlacedFiles.{IsPlacedFile}
use Rattle.solid_hints.specs.ShellHints.{ShellRemedies}
use Rattle.where_unjudged.specs.Listed.{solids_of}
use Rattle.where_overview.specs.Overview.{all_close, overview_text}
use Rattle.where_command.specs.declared.asked.Asked.{Asked}
use Rattle.where_command.specs.declared.asked.Asked.TheVariants as asked
use Rattle.where_command.specs.Asked.{asked_of, usage_line}
use Rattle.where_command.specs.Due.{DueOf, OfContents, answer_to, answer_where, bad_file, bad_file_text, file_too_large}
use Rattle.where_laws.specs.SomeAnswer.{SomeAnswerIsOwed}
use Rattle.where_laws.proofs.Told.{some_told, some_verdicts}

contents_due : (q : Asked) (p : PlacedFile) (bytes : List ℕ) → length bytes ≤ FILE_LIMIT → IsFile bytes p.file
    → (remedies : List ShellRemedies) × IsSome (OfContents q p remedies)
contents_due asked.Overview p bytes few is =
    let vs = some_verdicts p.file (length p.bytes) (solids_of p.file) in
    ([], (answer_where (all_close vs.0), overview_text p vs.0, (refl, (vs.0, record { judged = vs.1; text_is = refl }, refl))))
contents_due (asked.Solid n listing) p bytes few is =
    let told = some_told listing p (record { 0 = n }) (can_be_made bytes p.file few is).made.limits in
    (told.0, (answer_to told.1, told.2, (told.1, told.3, refl)))

-- the file with its bytes and the places of its entries
placed_of : (bytes : List ℕ) (f : Contents) → IsFile bytes f → (p : PlacedFile) × IsPlacedFile bytes p
placed_of bytes f is = (
  record { bytes = bytes; file = f; places = places_of is.sections is.placed },
  record { bytes_are = refl; at = record { file = is; places_are = refl } },
)

due_of : (q : Asked) (bytes : List ℕ) → (remedies : List ShellRemedies) × IsSome (DueOf q bytes remedies)
due_of q bytes = by_limit (decided_within (length bytes) FILE_LIMIT) (one_reading bytes)
  where
    by_limit : Decided (length bytes ≤ FILE_LIMIT) → HasOneReading bytes → (remedies : List ShellRemedies) × IsSome (DueOf q bytes remedies)
    by_limit (inr more) reading = ([], (answer.TooLarge, [], inl (refl, file_too_large (longer (length bytes) FILE_LIMIT more))))
    by_limit (inl few) (inl (f, only, never)) =
        let p = placed_of bytes f only.0 in
        let due = contents_due q p.0 bytes few p.1.at.file in
        (due.0, (due.1.0, due.1.1, inr (few, p.0, p.1, due.1.2)))
    by_limit (inl few) (inr (fault, only, never)) = ([], (answer.BadFile, bad_file_text bytes fault, inl (refl, bad_file few fault only.0)))

-- what is owed for what the words ask for, with some remedies
abbrev DueFrom : List ℕ → Option Asked → Answer → List ℕ → Type 0
DueFrom bytes o a t =
    (remedies : List ShellRemedies) × MatchOption o ((remedies ≡ []) × Exactly answer.Usage usage_line a t) (λ q. DueOf q bytes remedies a t)

pub some_answer : SomeAnswerIsOwed
some_answer words bytes = by_asked (asked_of words)
  where
    by_asked : (o : Option Asked) → IsSome (DueFrom bytes o)
    by_asked None = (answer.Usage, usage_line, ([], (refl, (refl, refl))))
    by_asked (Some q) = let due = due_of q bytes in (due.1.0, due.1.1, (due.0, due.1.2))
