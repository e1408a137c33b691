-- Of reorienting a solid one answer is owed, and one text but for which rings it names.
use Rattle.std.specs.Prelude.{◌≡◌, ◌⊎◌, ℕ, zero, suc, ◌≤◌, Bool, List, [], ◌∷◌, ◌++◌, length, Some, slice_get}
use Rattle.std.specs.List.{AllZip}
use Rattle.std.proofs.Common.{refl, subst, arith, inl, inr}
use Rattle.std.proofs.lemmas.List.{length-append}
use Rattle.std.proofs.lemmas.Option.{none-some}
use Rattle.iges_params.specs.Contents.{Contents}
use Rattle.iges_params.specs.Limits.{FitsLimits}
use Rattle.solid_data.specs.Obligations.{AllHold, FirstFalse}
use Rattle.solid_data.specs.Ring.{numbers_from}
use Rattle.solid_data.specs.SolidData.{SolidData}
use Rattle.solid_data.proofs.Decisions.{Decided, decided_all}
use Rattle.solid_data.specs.declared.verdict.Failing.{Failing}
use Rattle.solid_data.proofs.ObligationLemmas.{FirstFalse-not_all}
use Rattle.solid_data.proofs.ObligationsDecided.{all_or_first_false}
use Rattle.brep_walk.specs.Places.{places}
use Rattle.brep_walk.specs.SolidOf.{solid_of}
use Rattle.brep_walk.proofs.Decided.{places_decided}
use Rattle.entry_references.specs.declared.fault.ExtractReason.{ExtractReason}
use Rattle.solid_extract.specs.Extracted.{new_number, IsRefused, IsExtracted}
use Rattle.solid_extract.proofs.One.{IsExtracted-IsRefused}
use Rattle.orient_certificate.specs.Flags.{face_flags, rows_at, FlagsFit}
use Rattle.orient_certificate.specs.OddRing.{OddRing}
use Rattle.orient_certificate.specs.Laws.{ExactlyOne}
use Rattle.orient_certificate.specs.Partners.{HasTwoRows, AllHaveTwoRows, IsReached, AllReached}
use Rattle.orient_certificate.proofs.Lawful.{flags_or, refuses}
use Rattle.orient_commands.proofs.OneOwed.{orienting_one}
use Rattle.orient_commands.proofs.OrientDecided.{two_decided, reached_decided}
use Rattle.orient_commands.proofs.SomeOwed.{orienting_due}
use Rattle.flag_choice.specs.Choice.{chosen}
use Rattle.flag_choice.specs.Suiting.{FlagsSuit, AllSuit}
use Rattle.solid_reorient.specs.Fitting.{HasFlags}
use Rattle.solid_reorient.specs.Reflagged.{reflagged}
use Rattle.solid_reorient.proofs.OneFile.{one_file}
use Rattle.flag_choice.proofs.Suiting.{more_suit, none_suit}
use Rattle.command_replies.specs.declared.answer.Answer.{Answer}
use Rattle.command_replies.specs.declared.answer.Answer.TheVariants as answer
use Rattle.cert_lines.specs.Line.{cut_lines}
use Rattle.orient_commands.specs.Laws.{AreSameOrRings}
use Rattle.repair_commands.specs.SolidDue.{OfReorient, unoriented, not_reoriented, reoriented}
use Rattle.file_replies.proofs.ExtractionDecided.{extracted_or_refused}
use Rattle.file_replies.specs.Written.{OfWritten, no_extract_line}
use Rattle.file_replies.proofs.WrittenFiles.{one_written, refused_line, some_written}

pub reorient_one : (n : ℕ) (f : Contents) (a b : Answer) (t u : List ℕ) → OfReorient n f a t → OfReorient n f b u
    → (a ≡ b) × ((t ≡ u) ⊎ AllZip AreSameOrRings (cut_lines t) (cut_lines u))
reorient_one n f a b t u (unoriented none p) (unoriented never q) = let same = orienting_one n f a b t u p q in (same.0, inr same.1)
reorient_one n f a b t u (unoriented none p) (not_reoriented x flags k s q) = absurd (none x flags)
reorient_one n f a b t u (unoriented none p) (reoriented new q due) = absurd (none q.flags q.fit)
reorient_one n f a b t u (not_reoriented x flags e r p) (unoriented never q) = absurd (never x flags)
reorient_one n f a b t u (not_reoriented x flags e r p) (not_reoriented y others k s q) = (refl, inl (refused_line n f e k r s p q))
reorient_one n f a b t u (not_reoriented x flags e r p) (reoriented new q due) = absurd (IsExtracted-IsRefused f n q.«between» e r q.extracted p)
reorient_one n f a b t u (reoriented new p owed) (unoriented never q) = absurd (never p.flags p.fit)
reorient_one n f a b t u (reoriented new p owed) (not_reoriented x flags k s q) = absurd (IsExtracted-IsRefused f n p.«between» k s p.extracted q)
reorient_one n f a b t u (reoriented new p owed) (reoriented other q due) = let same = one_written other a b t u
    (subst (λ (g : Contents). OfWritten g a t) (one_file f n new other p q) owed) due in (same.0, inl same.1)

-- ---- some answer is owed

-- flags suit a shell, or none do
shell_flags : (s : SolidData) (k : ℕ) → ((x : List Bool) × FlagsSuit s k x) ⊎ ((x : List Bool) → ¬ FlagsSuit s k x)
shell_flags s k = by_ready (decided_all (HasTwoRows (rows_at s k)) (two_decided (rows_at s k)) (rows_at s k).edges)
    (decided_all (IsReached (rows_at s k)) (reached_decided (rows_at s k)) (numbers_from 0 (rows_at s k).face_count))
  where
    by_law : AllHaveTwoRows (rows_at s k) → AllReached (rows_at s k) → ExactlyOne (FlagsFit s k) ⊎ ((rows : List ℕ) × OddRing s k rows)
        → ((x : List Bool) × FlagsSuit s k x) ⊎ ((x : List Bool) → ¬ FlagsSuit s k x)
    by_law counted reached (inl one) = inl (
      chosen (face_flags (slice_get s.shells k)) one.0,
      record { counted = counted; reached = reached; kept = one.0; fit = one.1; choice = refl },
    )
    by_law counted reached (inr ring) = inr (λ x suit. refuses s k ring.0 suit.kept suit.counted ring.1 suit.fit)

    by_ready : Decided (AllHaveTwoRows (rows_at s k)) → Decided (AllReached (rows_at s k))
        → ((x : List Bool) × FlagsSuit s k x) ⊎ ((x : List Bool) → ¬ FlagsSuit s k x)
    by_ready (inl counted) (inl reached) = by_law counted reached (flags_or s k counted reached)
    by_ready (inl counted) (inr never) = inr (λ x suit. never suit.reached)
    by_ready (inr never) reached = inr (λ x suit. never suit.counted)

record AreSoFar (s : SolidData) (k : ℕ) (lists : List (List Bool)) : Type 0 where
  each : length lists ≡ k
  suit : (j : ℕ) (x : List Bool) → slice_get lists j ≡ Some x → FlagsSuit s j x

so_far : (s : SolidData) (k : ℕ) → k ≤ length s.shells → ((lists : List (List Bool)) × AreSoFar s k lists) ⊎ ((lists : List (List Bool)) → ¬ AllSuit s lists)
so_far s zero le = inl ([], record { each = refl; suit = λ j x at. absurd (none-some x at) })
so_far s (suc k) le = by_parts (so_far s k (omega (arith, le))) (shell_flags s k)
  where
    by_parts : ((lists : List (List Bool)) × AreSoFar s k lists) ⊎ ((lists : List (List Bool)) → ¬ AllSuit s lists)
        → ((x : List Bool) × FlagsSuit s k x) ⊎ ((x : List Bool) → ¬ FlagsSuit s k x)
        → ((lists : List (List Bool)) × AreSoFar s (suc k) lists) ⊎ ((lists : List (List Bool)) → ¬ AllSuit s lists)
    by_parts (inr never) one = inr never
    by_parts (inl before) (inr never) = inr (none_suit s k (omega (arith, le)) never)
    by_parts (inl (lists, are)) (inl (x, suit)) = inl (
      lists ++ x ∷ [],
      record { each = omega (arith, length-append lists (x ∷ []), are.each); suit = more_suit s lists (lists ++ x ∷ []) x k are.each are.suit suit refl },
    )

flags_or_none : (n : ℕ) (f : Contents) → ((x : List (List Bool)) × HasFlags f n x) ⊎ ((x : List (List Bool)) → ¬ HasFlags f n x)
flags_or_none n f = by_places (all_or_first_false (places f n) (places_decided f n))
    (so_far (solid_of f n) (let s = solid_of f n in length s.shells) (omega arith))
  where
    by_places : AllHold (places f n) ⊎ ((x : Failing) × FirstFalse (places f n) x)
        → ((lists : List (List Bool)) × AreSoFar (solid_of f n) (let s = solid_of f n in length s.shells) lists) ⊎ ((lists : List (List Bool))
        → ¬ AllSuit (solid_of f n) lists)
        → ((x : List (List Bool)) × HasFlags f n x) ⊎ ((x : List (List Bool)) → ¬ HasFlags f n x)
    by_places (inr (x, first)) suits = inr (λ lists h. FirstFalse-not_all (places f n) x first h.places)
    by_places (inl all) (inr never) = inr (λ lists h. never lists h.suit)
    by_places (inl all) (inl (lists, are)) = inl (lists, record { places = all; suit = record { each = are.each; suit = are.suit } })

pub some_reorient : (n : ℕ) (f : Contents) → FitsLimits f → (a : Answer) × (t : List ℕ) × OfReorient n f a t
some_reorient n f limits = by_answer (flags_or_none n f) (extracted_or_refused f n)
  where
    by_answer : ((x : List (List Bool)) × HasFlags f n x) ⊎ ((x : List (List Bool)) → ¬ HasFlags f n x)
        → ((new : Contents) × IsExtracted f n new) ⊎ ((entity : ℕ) × (why : ExtractReason) × IsRefused f n entity why)
        → (a : Answer) × (t : List ℕ) × OfReorient n f a t
    by_answer (inr never) found = let owed = orienting_due n f limits in (owed.0, owed.1, unoriented never owed.2)
    by_answer (inl (x, flags)) (inr (entity, why, refused)) = (answer.NoExtract, no_extract_line entity why, not_reoriented x flags entity why refused)
    by_answer (inl (x, flags)) (inl (g, found)) =
        let new : Contents = reflagged g (new_number found.kept n) x in
        let owed = some_written (reflagged g (new_number found.kept n) x) in (
          owed.0,
          owed.1,
          reoriented (reflagged g (new_number found.kept n) x) (record { flags = x; fit = flags; «between» = g; extracted = found; is = refl })
              owed.2,
        )
