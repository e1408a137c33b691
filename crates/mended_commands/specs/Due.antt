-- What is owed of telling how a solid is mended.
use Rattle.std.specs.Prelude.{ℕ, ◌<◌, ◌≤◌, Bool, false, List, [], ◌∷◌, ◌++◌, codes, decimal, flat_map, length, Option, Some, None, unwrap_or}
use Rattle.iges_base.specs.declared.TheConstants.{FILE_LIMIT}
use Rattle.iges_params.specs.Contents.{Contents}
use Rattle.iges_write.specs.Text.{IsText}
use Rattle.solid_data.specs.Obligations.{FirstFalse}
use Rattle.solid_data.specs.SolidData.{SolidData}
use Rattle.solid_data.specs.declared.verdict.Failing.{Failing}
use Rattle.brep_walk.specs.Places.{places}
use Rattle.brep_walk.specs.SolidOf.{solid_of}
use Rattle.solid_verdict.specs.Closed.{IsClosed}
use Rattle.entry_references.specs.declared.fault.ExtractReason.{ExtractReason}
use Rattle.solid_extract.specs.Extracted.{IsExtracted, IsRefused}
use Rattle.named_once.specs.Once.{once, dropped}
use Rattle.named_once.specs.declared.places.Dropped.{Dropped}
use Rattle.shell_change.specs.declared.change.Change.{Change}
use Rattle.where_text.specs.declared.listing.Listing.TheVariants.{Few}
use Rattle.remedy_text.specs.declared.remedy.Heading.{Heading}
use Rattle.remedy_text.specs.Remedies.{remedy_text}
use Rattle.solid_mend.specs.declared.mending.Unmended.{Unmended}
use Rattle.command_replies.specs.declared.answer.Answer.{Answer}
use Rattle.command_replies.specs.declared.answer.Answer.TheVariants as answer
use Rattle.command_replies.specs.Texts.{fail_line}
use Rattle.file_replies.specs.Written.{no_extract_line}
use Rattle.mend_commands.specs.Due.{FailsBy, IsMendedAs, IsOnce, unmended_line}

abbrev pub closed_line : ℕ → List ℕ
closed_line n = codes "closed " ++ decimal n ++ codes "\n"

-- a place that is left out
abbrev pub dropped_line : Dropped → List ℕ
dropped_line d = codes "dropped " ++ decimal d.entity.0 ++ codes " item " ++ decimal d.item ++ codes "\n"

-- what is told of a closed solid: that it is, or what was left out
abbrev pub closed_told : ℕ → List Dropped → List ℕ
closed_told n [] = closed_line n
closed_told n (d ∷ ds) = flat_map dropped_line (d ∷ ds)

-- of a remedy its number alone
abbrev pub heading : ℕ → Heading
heading number = record { number = number; explained = false }

-- the changes of a solid's shells, each as a remedy of this number
abbrev pub remedies_told : Contents → SolidData → List ℕ → List Change → List ℕ
remedies_told f s [] cs = []
remedies_told f s (number ∷ numbers) [] = []
remedies_told f s (number ∷ numbers) (c ∷ cs) = remedy_text Few f s (heading number) c ++ remedies_told f s numbers cs

-- what is told where this file would be written
pub data OfTold (f : Contents) (told : List ℕ) : Answer → List ℕ → Type 0 where
  -- its text is too large
  too_large : (text : List ℕ) → IsText f text → FILE_LIMIT < length text → OfTold f told answer.TooLarge []
  told_so : (text : List ℕ) → IsText f text → length text ≤ FILE_LIMIT → OfTold f told answer.Done told

-- What is owed of telling how a solid is mended whose records are right: the same as of mending it, but in place of a file what is changed, by the
-- numbers of the file. Before that stand the places that are left out, where something was named twice.
pub data OfToldPlaced (n : ℕ) (f : Contents) (twice : Option Failing) (ds : List Dropped) : Answer → List ℕ → Type 0 where
  not_extracted : (entity : ℕ) (why : ExtractReason) → IsRefused f n entity why → OfToldPlaced n f twice ds answer.NoExtract (no_extract_line entity why)
  closed : {a : Answer} {t : List ℕ} (g : Contents) → IsExtracted f n g → IsClosed f n → OfTold g (closed_told n ds) a t → OfToldPlaced n f twice ds a t
  mended : {a : Answer} {t : List ℕ} (x : Failing) → FailsBy n f x → (g : Contents) (m : ℕ) (cs : List Change) (new : Contents)
      → IsMendedAs n f g m cs new → (numbers : List ℕ)
      → OfTold new (flat_map dropped_line ds ++ remedies_told f (solid_of f n) numbers cs) a t → OfToldPlaced n f twice ds a t
  unmended : (g : Contents) → IsExtracted f n g → (x : Failing) → FailsBy n f x → (why : Unmended)
      → OfToldPlaced n f twice ds answer.No (fail_line (unwrap_or twice x) ++ unmended_line why)

-- what is owed of telling how a solid of a file is mended
pub data OfMended (n : ℕ) (f : Contents) : Answer → List ℕ → Type 0 where
  placed : {a : Answer} {t : List ℕ} → OfToldPlaced n f None [] a t → OfMended n f a t
  again : {a : Answer} {t : List ℕ} (g : Contents) → IsExtracted f n g → (x : Failing) → IsOnce n f x
      → OfToldPlaced n (once f n) (Some x) (dropped f n) a t → OfMended n f a t
  misplaced : (g : Contents) → IsExtracted f n g → (x : Failing) → FirstFalse (places f n) x → ¬ IsOnce n f x → OfMended n f answer.No (fail_line x)
