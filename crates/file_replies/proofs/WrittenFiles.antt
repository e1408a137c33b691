-- Of a file that is written one answer and text are owed, and a refusal has one line.
use Rattle.std.specs.Prelude.{◌≡◌, ℕ, ◌<◌, ◌≤◌, List, [], length}
use Rattle.std.proofs.Common.{refl, sym, ap, ◌∙◌, arith, inl, inr}
use Rattle.iges_base.specs.declared.TheConstants.{FILE_LIMIT}
use Rattle.iges_params.specs.Contents.{Contents}
use Rattle.iges_write.specs.Text.{IsText}
use Rattle.iges_write.proofs.FileBack.{one_text}
use Rattle.solid_data.proofs.Decisions.{Decided, decided_within}
use Rattle.entry_references.specs.declared.fault.ExtractReason.{ExtractReason}
use Rattle.solid_extract.specs.Extracted.{IsRefused}
use Rattle.solid_extract.proofs.One.{IsRefused-unique}
use Rattle.command_replies.specs.declared.answer.Answer.{Answer}
use Rattle.command_replies.specs.declared.answer.Answer.TheVariants as answer
use Rattle.file_replies.specs.Written.{OfWritten, too_large, written, no_extract_line}

-- ---- two that are owed are one

-- a file has one text
pub text_is : (f : Contents) (t u : List ℕ) → IsText f t → IsText f u → t ≡ u
text_is f t u p q = let one = one_text f in one.2 t p ∙ sym (one.2 u q)

pub one_written : (f : Contents) (a b : Answer) (t u : List ℕ) → OfWritten f a t → OfWritten f b u → (a ≡ b) × (t ≡ u)
one_written f a b t u (too_large text is many) (too_large other at more) = (refl, refl)
one_written f a b t u (too_large text is many) (written other at few) = let same = ap (λ (xs : List ℕ). length xs) (text_is f text other is at) in absurd
    (omega (arith, many, few, same))
one_written f a b t u (written text is few) (too_large other at many) = let same = ap (λ (xs : List ℕ). length xs) (text_is f text other is at) in absurd
    (omega (arith, many, few, same))
one_written f a b t u (written text is few) (written other at fewer) = (refl, text_is f text other is at)

-- a refusal has one line
pub refused_line : (n : ℕ) (f : Contents) (e k : ℕ) (r s : ExtractReason) → IsRefused f n e r → IsRefused f n k s → no_extract_line e r ≡ no_extract_line k s
refused_line n f e k r s p q =
    let same = IsRefused-unique f n e k r s p q in
    ap (λ i. no_extract_line i r) same.0 ∙ ap (no_extract_line k) same.1

pub some_written : (f : Contents) → (a : Answer) × (t : List ℕ) × OfWritten f a t
some_written f = by_limit (one_text f).0 (one_text f).1 (decided_within (length (one_text f).0) FILE_LIMIT)
  where
    by_limit : (text : List ℕ) → IsText f text → Decided (length text ≤ FILE_LIMIT) → (a : Answer) × (t : List ℕ) × OfWritten f a t
    by_limit text is (inl few) = (answer.Done, text, written text is few)
    by_limit text is (inr more) = let above : FILE_LIMIT < length text = omega (arith, more) in (answer.TooLarge, [], too_large text is above)
