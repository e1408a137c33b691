-- What is owed of reorienting a solid.
use Rattle.std.specs.Prelude.{ℕ, Bool, List}
use Rattle.iges_params.specs.Contents.{Contents}
use Rattle.entry_references.specs.declared.fault.ExtractReason.{ExtractReason}
use Rattle.solid_extract.specs.Extracted.{IsRefused}
use Rattle.solid_reorient.specs.Fitting.{HasFlags}
use Rattle.solid_reorient.specs.Reoriented.{IsReoriented}
use Rattle.command_replies.specs.declared.answer.Answer.{Answer}
use Rattle.command_replies.specs.declared.answer.Answer.TheVariants as answer
use Rattle.orient_commands.specs.Due.{OfOrient}
use Rattle.file_replies.specs.Written.{OfWritten, no_extract_line}

-- what is owed of reorienting a solid
pub data OfReorient (n : ℕ) (f : Contents) : Answer → List ℕ → Type 0 where
  -- it has no flags: what is owed of orienting it
  unoriented : {a : Answer} {t : List ℕ} → ((x : List (List Bool)) → ¬ HasFlags f n x) → OfOrient n f a t → OfReorient n f a t
  -- it has flags, and can't be extracted: the first entity in the way, and why
  not_reoriented : (x : List (List Bool)) → HasFlags f n x → (entity : ℕ) (why : ExtractReason) → IsRefused f n entity why
      → OfReorient n f answer.NoExtract (no_extract_line entity why)
  -- what is owed of writing its file
  reoriented : {a : Answer} {t : List ℕ} (new : Contents) → IsReoriented f n new → OfWritten new a t → OfReorient n f a t
