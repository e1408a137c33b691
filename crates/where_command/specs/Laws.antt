-- What the definitions say of answers and texts.
use Rattle.std.specs.Prelude.{◌≡◌, ◌⊎◌, ℕ, List, All, Some, slice_get}
use Rattle.brep_walk.specs.SolidOf.{solid_of}
use Rattle.where_places.specs.declared.placed_file.PlacedFile.{PlacedFile}
use Rattle.where_places.specs.PlacedFiles.{IsPlacedFile}
use Rattle.solid_verdict.specs.Closed.{IsClosed}
use Rattle.command_replies.specs.declared.answer.Answer.{Answer}
use Rattle.command_replies.specs.declared.answer.Answer.TheVariants.{Done, No}
use Rattle.where_text.specs.declared.listing.Listing.{Listing}
use Rattle.solid_hints.specs.ShellHints.{IsRemedy, ShellRemedies}
use Rattle.where_command.specs.declared.asked.Asked.TheVariants as asked
use Rattle.where_command.specs.Asked.{asked_of}
use Rattle.where_command.specs.Due.{DueWith, OfSolid}

-- Two that are owed have one answer, and one text if they tell the same remedies.
abbrev pub OneAnswerIsOwed : Type 0
OneAnswerIsOwed =
    (words : List (List ℕ)) (bytes : List ℕ) (some others : List ShellRemedies) (a b : Answer) (t u : List ℕ) → DueWith some words bytes a t
    → DueWith others words bytes b u → (a ≡ b) × (some ≡ others → t ≡ u)

-- Remedies are told of shells of the solid that the words name, and each fits and passes.
abbrev pub ToldRemediesPass : Type 0
ToldRemediesPass =
    (words : List (List ℕ)) (bytes : List ℕ) (remedies : List ShellRemedies) (a : Answer) (t : List ℕ) → DueWith remedies words bytes a t
    → (i : ℕ) (x : ShellRemedies) → slice_get remedies i ≡ Some x → (n : ℕ) × (listing : Listing) × (p : PlacedFile)
    × (asked_of words ≡ Some (asked.Solid n listing)) × IsPlacedFile bytes p × All (IsRemedy p.file (solid_of p.file n) x.0) x.1

-- Of a solid yes is answered exactly where it is closed, and no where it isn't.
abbrev pub ClosedIsTold : Type 0
ClosedIsTold =
    (n : ℕ) (listing : Listing) (p : PlacedFile) (remedies : List ShellRemedies) (a : Answer) (t : List ℕ) → OfSolid n listing p remedies a t
    → ((a ≡ Done) × IsClosed p.file n) ⊎ ((a ≡ No) × ¬ IsClosed p.file n)
