-- Of a solid that is extracted, and of one that is compacted, one answer and text are owed.
use Rattle.std.specs.Prelude.{◌≡◌, ◌⊎◌, ℕ, List, Ok}
use Rattle.std.proofs.Common.{refl, ap, subst, inl, inr}
use Rattle.iges_params.specs.Contents.{Contents}
use Rattle.solid_data.proofs.ObligationLemmas.{FirstFalse-one, FirstFalse-not_all}
use Rattle.solid_data.specs.Obligations.{AllHold, FirstFalse}
use Rattle.solid_data.specs.declared.verdict.Failing.{Failing}
use Rattle.solid_data.proofs.ObligationsDecided.{all_or_first_false}
use Rattle.brep_walk.specs.Places.{places}
use Rattle.brep_walk.proofs.Decided.{places_decided}
use Rattle.entry_references.specs.declared.fault.ExtractReason.{ExtractReason}
use Rattle.solid_extract.specs.Extracted.{new_number, IsRefused, IsExtracted}
use Rattle.solid_extract.proofs.One.{IsExtracted-unique, IsExtracted-IsRefused}
use Rattle.list_compact.specs.Dropped.{dropped}
use Rattle.list_compact.proofs.NotRefused.{not_refused}
use Rattle.list_compact.proofs.OneAnswer.{only_file}
use Rattle.command_replies.specs.declared.answer.Answer.{Answer}
use Rattle.command_replies.specs.declared.answer.Answer.TheVariants as answer
use Rattle.command_replies.specs.Texts.{fail_line}
use Rattle.file_replies.specs.Written.{OfWritten, no_extract_line}
use Rattle.file_replies.proofs.WrittenFiles.{one_written, refused_line, some_written}
use Rattle.file_replies.specs.Due.{OfExtract, not_extracted, extracted}
use Rattle.iges_solid_cmd.specs.Due.{OfCompact, not_compacted, misplaced, compacted}
use Rattle.file_replies.proofs.ExtractionDecided.{extracted_or_refused}

-- ---- two that are owed are one

-- two answers that are owed of extracting a solid agree
pub one_extract : (n : ℕ) (f : Contents) (a b : Answer) (t u : List ℕ) → OfExtract n f a t → OfExtract n f b u → (a ≡ b) × (t ≡ u)
one_extract n f a b t u (not_extracted e r p) (not_extracted k s q) = (refl, refused_line n f e k r s p q)
one_extract n f a b t u (not_extracted e r p) (extracted new x owed) = absurd (IsExtracted-IsRefused f n new e r x p)
one_extract n f a b t u (extracted new x owed) (not_extracted k s q) = absurd (IsExtracted-IsRefused f n new k s x q)
one_extract n f a b t u (extracted new x owed) (extracted other y due) =
    one_written other a b t u (subst (λ (g : Contents). OfWritten g a t) (IsExtracted-unique f n new other x y) owed) due

-- two answers that are owed of compacting a solid agree
pub one_compact : (n : ℕ) (f : Contents) (a b : Answer) (t u : List ℕ) → OfCompact n f a t → OfCompact n f b u → (a ≡ b) × (t ≡ u)
one_compact n f a b t u (not_compacted e r p) (not_compacted k s q) = (refl, refused_line n f e k r s p q)
one_compact n f a b t u (not_compacted e r p) (misplaced y q) = absurd (IsExtracted-IsRefused f n q.«between» e r q.extracted p)
one_compact n f a b t u (not_compacted e r p) (compacted new q due) = absurd (IsExtracted-IsRefused f n q.«between» e r q.extracted p)
one_compact n f a b t u (misplaced x p) (not_compacted k s q) = absurd (IsExtracted-IsRefused f n p.«between» k s p.extracted q)
one_compact n f a b t u (misplaced x p) (misplaced y q) = (refl, ap fail_line (FirstFalse-one (places f n) x y p.places q.places))
one_compact n f a b t u (misplaced x p) (compacted new q due) = absurd (FirstFalse-not_all (places f n) x p.places q.places)
one_compact n f a b t u (compacted new p owed) (not_compacted k s q) = absurd (IsExtracted-IsRefused f n p.«between» k s p.extracted q)
one_compact n f a b t u (compacted new p owed) (misplaced y q) = absurd (FirstFalse-not_all (places f n) y q.places p.places)
one_compact n f a b t u (compacted new p owed) (compacted other q due) =
    one_written other a b t u (subst (λ (g : Contents). OfWritten g a t) (only_file f n (Ok new) other p tt q) owed) due

-- ---- something is owed

-- some answer is owed of extracting a solid
pub some_extract : (n : ℕ) (f : Contents) → (a : Answer) × (t : List ℕ) × OfExtract n f a t
some_extract n f = by_answer (extracted_or_refused f n)
  where
    by_answer : ((new : Contents) × IsExtracted f n new) ⊎ ((entity : ℕ) × (why : ExtractReason) × IsRefused f n entity why)
        → (a : Answer) × (t : List ℕ) × OfExtract n f a t
    by_answer (inr (entity, why, refused)) = (answer.NoExtract, no_extract_line entity why, not_extracted entity why refused)
    by_answer (inl (new, found)) = let owed = some_written new in (owed.0, owed.1, extracted new found owed.2)

-- once its unused items are dropped, an extracted solid is extracted again
again : (f g : Contents) (n : ℕ) (x : IsExtracted f n g) → (new : Contents) × IsExtracted (dropped g) (new_number x.kept n) new
again f g n x = by_answer (extracted_or_refused (dropped g) (new_number x.kept n))
  where
    by_answer : ((new : Contents) × IsExtracted (dropped g) (new_number x.kept n) new)
        ⊎ ((entity : ℕ) × (why : ExtractReason) × IsRefused (dropped g) (new_number x.kept n) entity why)
        → (new : Contents) × IsExtracted (dropped g) (new_number x.kept n) new
    by_answer (inl found) = found
    by_answer (inr (entity, why, refused)) = absurd (not_refused f g n x entity why refused)

-- some answer is owed of compacting a solid
pub some_compact : (n : ℕ) (f : Contents) → (a : Answer) × (t : List ℕ) × OfCompact n f a t
some_compact n f = by_answer (extracted_or_refused f n) (all_or_first_false (places f n) (places_decided f n))
  where
    by_answer : ((new : Contents) × IsExtracted f n new) ⊎ ((entity : ℕ) × (why : ExtractReason) × IsRefused f n entity why)
        → AllHold (places f n) ⊎ ((x : Failing) × FirstFalse (places f n) x) → (a : Answer) × (t : List ℕ) × OfCompact n f a t
    by_answer (inr (entity, why, refused)) holds = (answer.NoExtract, no_extract_line entity why, not_compacted entity why refused)
    by_answer (inl (g, found)) (inr (x, bad)) = (answer.No, fail_line x, misplaced x (record { «between» = g; extracted = found; places = bad }))
    by_answer (inl (g, found)) (inl all) =
        let new = again f g n found in
        let owed = some_written new.0 in
        (owed.0, owed.1, compacted new.0 (record { «between» = g; extracted = found; places = all; again = new.1 }) owed.2)
