-- What is owed.
use Rattle.std.specs.Prelude.{◌≡◌, ◌⊎◌, ℕ, ◌<◌, ◌≤◌, Bool, true, false, List, [], ◌++◌, length, MatchOption, Option}
use Rattle.iges_base.specs.declared.TheConstants.{FILE_LIMIT}
use Rattle.iges_lines.specs.declared.fault.LineFault.{LineFault}
use Rattle.iges_params.specs.Refusal.{Refusal}
use Rattle.solid_data.specs.declared.verdict.Verdict.{Verdict}
use Rattle.solid_data.specs.declared.verdict.Verdict.TheVariants.{Closed, Fails}
use Rattle.command_replies.specs.declared.answer.Answer.{Answer}
use Rattle.command_replies.specs.declared.answer.Answer.TheVariants as answer
use Rattle.command_replies.specs.Due.{Owed, Exactly}
use Rattle.command_replies.specs.Texts.{bad_file_line}
use Rattle.where_places.specs.declared.placed_file.PlacedFile.{PlacedFile}
use Rattle.where_places.specs.PlacedFiles.{IsPlacedFile}
use Rattle.where_file.specs.BadFile.{bad_file_facts}
use Rattle.where_text.specs.Sentences.{reason_sentence}
use Rattle.where_text.specs.declared.listing.Listing.{Listing}
use Rattle.solid_hints.specs.ShellHints.{ShellRemedies}
use Rattle.where_overview.specs.Overview.{IsOverview, all_close}
use Rattle.where_solids.specs.Told.{IsToldOf}
use Rattle.where_command.specs.declared.asked.Asked.{Asked}
use Rattle.where_command.specs.declared.asked.Asked.TheVariants as asked
use Rattle.where_command.specs.Asked.{asked_of, usage_line}

-- the line of a bad file, the sentence of the reason, and what is known of that line and of the file
abbrev pub bad_file_text : List ℕ → LineFault → List ℕ
bad_file_text bytes fault = bad_file_line fault ++ reason_sentence fault.reason ++ bad_file_facts fault bytes

-- what is owed of bytes that are no file to be judged
pub data OfNoFile (bytes : List ℕ) : Answer → List ℕ → Type 0 where
  -- there are too many
  file_too_large : FILE_LIMIT < length bytes → OfNoFile bytes answer.TooLarge []
  -- a line is bad
  bad_file : length bytes ≤ FILE_LIMIT → (fault : LineFault) → Refusal bytes fault → OfNoFile bytes answer.BadFile (bad_file_text bytes fault)

abbrev pub answer_to : Verdict → Answer
answer_to Closed = answer.Done
answer_to (Fails x) = answer.No

abbrev pub answer_where : Bool → Answer
answer_where true = answer.Done
answer_where false = answer.No

-- of one solid of a file: its verdict, and where it fails, with these remedies of its shells
abbrev pub OfSolid : ℕ → Listing → PlacedFile → List ShellRemedies → Owed
OfSolid n listing p remedies a t = (v : Verdict) × IsToldOf listing p (record { 0 = n }) remedies v t × (a ≡ answer_to v)

-- of all solids of a file: the verdict on each that is judged
abbrev pub OfOverview : PlacedFile → Owed
OfOverview p a t = (vs : List (Option Verdict)) × IsOverview p vs t × (a ≡ answer_where (all_close vs))

-- no remedies are told of all solids
abbrev pub OfContents : Asked → PlacedFile → List ShellRemedies → Owed
OfContents asked.Overview p remedies a t = (remedies ≡ []) × OfOverview p a t
OfContents (asked.Solid n listing) p remedies a t = OfSolid n listing p remedies a t

-- what is owed of a file's bytes, with these remedies
abbrev pub DueOf : Asked → List ℕ → List ShellRemedies → Owed
DueOf q bytes remedies a t = ((remedies ≡ []) × OfNoFile bytes a t)
    ⊎ ((length bytes ≤ FILE_LIMIT) × (p : PlacedFile) × IsPlacedFile bytes p × OfContents q p remedies a t)

-- with some remedies
abbrev pub DueFor : Asked → List ℕ → Owed
DueFor q bytes a t = (remedies : List ShellRemedies) × DueOf q bytes remedies a t

-- what is owed for these words and the file's bytes, with these remedies
abbrev pub DueWith : List ShellRemedies → List (List ℕ) → List ℕ → Owed
DueWith remedies words bytes a t =
    MatchOption (asked_of words) ((remedies ≡ []) × Exactly answer.Usage usage_line a t) (λ q. DueOf q bytes remedies a t)

-- what is owed: with some remedies. It stays open which they are.
abbrev pub Due : List (List ℕ) → List ℕ → Owed
Due words bytes a t = (remedies : List ShellRemedies) × DueWith remedies words bytes a t
