-- What is owed of mending a solid.
use Rattle.std.specs.Prelude.{ℕ, Bool, true, false, IsTrue, List, ◌++◌, codes, decimal, Option, Some, None, unwrap_or}
use Rattle.iges_params.specs.Contents.{Contents}
use Rattle.iges_write.specs.Writable.{IsWritable}
use Rattle.solid_data.specs.Obligations.{AllHold, FirstFalse}
use Rattle.solid_data.specs.declared.verdict.Failing.{Failing}
use Rattle.solid_data.specs.declared.verdict.Rule.{Rule}
use Rattle.solid_data.specs.declared.verdict.Rule.TheVariants.{Twice}
use Rattle.shell_rules.specs.ShellObligations.{solid_obligations}
use Rattle.brep_walk.specs.Places.{places}
use Rattle.brep_walk.specs.SolidOf.{solid_of}
use Rattle.solid_verdict.specs.Closed.{IsClosed}
use Rattle.entry_references.specs.declared.fault.ExtractReason.{ExtractReason}
use Rattle.solid_extract.specs.Extracted.{IsExtracted, IsExtractedAs, IsRefused}
use Rattle.named_once.specs.Once.{once}
use Rattle.shell_change.specs.declared.change.Change.{Change}
use Rattle.solid_mend.specs.Mended.{IsMended}
use Rattle.solid_mend.specs.declared.mending.Unmended.{Unmended}
use Rattle.solid_mend.specs.declared.mending.Unmended.TheVariants as why_not
use Rattle.command_replies.specs.declared.answer.Answer.{Answer}
use Rattle.command_replies.specs.declared.answer.Answer.TheVariants as answer
use Rattle.command_replies.specs.Texts.{fail_line}
use Rattle.file_replies.specs.Written.{OfWritten, no_extract_line}

-- why it isn't mended
abbrev pub unmended_line : Unmended → List ℕ
unmended_line why_not.Stuck = codes "stuck\n"
unmended_line (why_not.NeedsFaces k) = codes "needs faces " ++ decimal k ++ codes "\n"
unmended_line (why_not.Unsure r) = codes "unsure " ++ decimal r ++ codes "\n"

-- The file's records describe the solid, and x is the first rule that a shell of it fails.
pub record FailsBy (n : ℕ) (f : Contents) (x : Failing) : Type 0 where
  pub placed : AllHold (places f n)
  pub first : FirstFalse (solid_obligations (solid_of f n)) x

-- g is what is extracted of the solid, which has number m there, and with these changes of g's records the solid and each new one are closed in the new
-- file, which can be written and reads back.
pub record IsMendedAs (n : ℕ) (f : Contents) (g : Contents) (m : ℕ) (cs : List Change) (new : Contents) : Type 0 where
  pub extracted : IsExtractedAs f n g m
  pub mended : IsMended g m cs new
  pub writable : IsWritable new

abbrev pub is_twice : Rule → Bool
is_twice Twice = true
is_twice _ = false

-- The first place of the solid's records that is false names something twice, and without all that is named twice each place holds.
pub record IsOnce (n : ℕ) (f : Contents) (x : Failing) : Type 0 where
  pub first : FirstFalse (places f n) x
  pub twice : IsTrue (is_twice x.rule)
  pub placed : AllHold (places (once f n) n)

-- what is owed of mending a solid, which isn't all settled: of a solid that fails by a rule on shells it is open whether it is mended, by which
-- changes, and what is told where it isn't. Where something was named twice, that is told in place of the rule.
pub data OfPlaced (n : ℕ) (f : Contents) (twice : Option Failing) : Answer → List ℕ → Type 0 where
  -- it can't be extracted: the first entity in the way, and why
  not_extracted : (entity : ℕ) (why : ExtractReason) → IsRefused f n entity why → OfPlaced n f twice answer.NoExtract (no_extract_line entity why)
  -- it is closed: what is owed of writing its file
  closed : {a : Answer} {t : List ℕ} (g : Contents) → IsExtracted f n g → IsClosed f n → OfWritten g a t → OfPlaced n f twice a t
  -- it is mended: what is owed of writing the new file
  mended : {a : Answer} {t : List ℕ} (x : Failing) → FailsBy n f x → (g : Contents) (m : ℕ) (cs : List Change) (new : Contents)
      → IsMendedAs n f g m cs new → OfWritten new a t → OfPlaced n f twice a t
  -- it isn't: the first rule that fails, and why
  unmended : (g : Contents) → IsExtracted f n g → (x : Failing) → FailsBy n f x → (why : Unmended)
      → OfPlaced n f twice answer.No (fail_line (unwrap_or twice x) ++ unmended_line why)

-- what is owed of mending a solid of a file
pub data OfMend (n : ℕ) (f : Contents) : Answer → List ℕ → Type 0 where
  -- of the file as it is
  placed : {a : Answer} {t : List ℕ} → OfPlaced n f None a t → OfMend n f a t
  -- of the file without what is named twice
  again : {a : Answer} {t : List ℕ} (g : Contents) → IsExtracted f n g → (x : Failing) → IsOnce n f x → OfPlaced n (once f n) (Some x) a t → OfMend n f a t
  -- a place is false, there too: the first that is
  misplaced : (g : Contents) → IsExtracted f n g → (x : Failing) → FirstFalse (places f n) x → ¬ IsOnce n f x → OfMend n f answer.No (fail_line x)
