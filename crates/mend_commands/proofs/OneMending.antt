-- What is owed of mending: that there is one, and how far it is one.
use Rattle.std.specs.Prelude.{◌≡◌, ◌⊎◌, ℕ, Bool, true, false, IsTrue, List, ◌++◌, Option, Some, None, unwrap_or}
use Rattle.std.proofs.Common.{refl, sym, ◌∙◌, ap, subst, inl, inr}
use Rattle.iges_params.specs.Contents.{Contents}
use Rattle.iges_params.specs.IsFile.{IsFile}
use Rattle.iges_params.specs.Limits.{FitsLimits}
use Rattle.iges_params.specs.Refusal.{IsOnly, HasOneReading}
use Rattle.iges_params.proofs.FileExact.{one_reading}
use Rattle.iges_write.proofs.FileBack.{reads_back}
use Rattle.solid_data.specs.Obligations.{AllHold, FirstFalse}
use Rattle.solid_data.specs.declared.verdict.Failing.{Failing}
use Rattle.solid_data.proofs.ObligationLemmas.{FirstFalse-not_all, FirstFalse-one}
use Rattle.solid_data.proofs.ObligationsDecided.{all_or_first_false}
use Rattle.shell_rules.specs.ShellObligations.{solid_obligations}
use Rattle.shell_rules.proofs.ClosedLemmas.{closed_is_all_hold}
use Rattle.shell_rules.proofs.Decided.{solid_decided}
use Rattle.brep_walk.specs.Places.{places}
use Rattle.brep_walk.specs.SolidOf.{solid_of}
use Rattle.brep_walk.proofs.Decided.{places_decided}
use Rattle.entry_references.specs.declared.fault.ExtractReason.{ExtractReason}
use Rattle.solid_extract.specs.Extracted.{IsExtracted, IsRefused}
use Rattle.solid_extract.proofs.One.{IsExtracted-unique, IsRefused-unique, IsExtracted-IsRefused}
use Rattle.shell_change.specs.declared.change.Change.{Change}
use Rattle.solid_mend.specs.declared.mending.Unmended.TheVariants.{Stuck}
use Rattle.command_replies.specs.declared.answer.Answer.{Answer}
use Rattle.command_replies.specs.declared.answer.Answer.TheVariants as answer
use Rattle.command_replies.specs.Texts.{fail_line}
use Rattle.file_replies.specs.Written.{OfWritten, no_extract_line}
use Rattle.file_replies.proofs.ExtractionDecided.{extracted_or_refused}
use Rattle.file_replies.proofs.WrittenFiles.{one_written, some_written}
use Rattle.named_once.specs.Once.{once}
use Rattle.solid_verdict.specs.Closed.{IsClosed}
use Rattle.mend_commands.specs.Due.{FailsBy, IsOnce, is_twice, unmended_line}
use Rattle.mend_commands.specs.Due.{OfMend, placed, again, misplaced, OfPlaced, not_extracted, closed, mended, unmended}
use Rattle.mend_commands.specs.Laws.{ClosedIsExtracted, MendedReadsBack, OneMendAnswer, SomeMendAnswer, OneMended}

-- ---- some

abbrev IsDue : (Answer → List ℕ → Type 0) → Type 0
IsDue owed = (a : Answer) × (t : List ℕ) × owed a t

some_placed : (n : ℕ) (f : Contents) (twice : Option Failing) → AllHold (places f n) → IsDue (OfPlaced n f twice)
some_placed n f twice all = by_extraction (extracted_or_refused f n)
  where
    by_shells : (g : Contents) → IsExtracted f n g → AllHold (solid_obligations (solid_of f n)) ⊎ ((x : Failing)
        × FirstFalse (solid_obligations (solid_of f n)) x) → IsDue (OfPlaced n f twice)
    by_shells g is (inl hold) =
        let owed = some_written g in (owed.0, owed.1, closed g is (record { placed = all; closed = (closed_is_all_hold (solid_of f n)).1 hold }) owed.2)
    by_shells g is (inr (x, first)) = (
      answer.No,
      fail_line (unwrap_or twice x) ++ unmended_line Stuck,
      unmended g is x (record { placed = all; first = first }) Stuck,
    )

    by_extraction : ((new : Contents) × IsExtracted f n new) ⊎ ((entity : ℕ) × (why : ExtractReason) × IsRefused f n entity why)
        → IsDue (OfPlaced n f twice)
    by_extraction (inl (g, is)) = by_shells g is (all_or_first_false (solid_obligations (solid_of f n)) (solid_decided (solid_of f n)))
    by_extraction (inr (entity, why, refused)) = (answer.NoExtract, no_extract_line entity why, not_extracted entity why refused)

pub some_mend : SomeMendAnswer
some_mend n f limits = by_places (all_or_first_false (places f n) (places_decided f n))
  where
    by_once : (g : Contents) → IsExtracted f n g → (x : Failing) → FirstFalse (places f n) x → IsTrue (is_twice x.rule)
        → AllHold (places (once f n) n) ⊎ ((y : Failing) × FirstFalse (places (once f n) n) y) → IsDue (OfMend n f)
    by_once g is x first says (inl all) =
        let due = some_placed n (once f n) (Some x) all in
        (due.0, due.1, again g is x (record { first = first; twice = says; placed = all }) due.2)
    by_once g is x first says (inr (y, one)) =
        (answer.No, fail_line x, misplaced g is x first (λ (o : IsOnce n f x). FirstFalse-not_all (places (once f n) n) y one o.placed))

    by_rule : (g : Contents) → IsExtracted f n g → (x : Failing) → FirstFalse (places f n) x → (b : Bool) → is_twice x.rule ≡ b → IsDue (OfMend n f)
    by_rule g is x first true e = by_once g is x first e (all_or_first_false (places (once f n) n) (places_decided (once f n) n))
    by_rule g is x first false e = (answer.No, fail_line x, misplaced g is x first (λ (o : IsOnce n f x). let says = o.twice in cc))

    by_extraction : (x : Failing) → FirstFalse (places f n) x → ((new : Contents) × IsExtracted f n new) ⊎ ((entity : ℕ) × (why : ExtractReason)
        × IsRefused f n entity why) → IsDue (OfMend n f)
    by_extraction x first (inl (g, is)) = by_rule g is x first (is_twice x.rule) refl
    by_extraction x first (inr (entity, why, refused)) = (answer.NoExtract, no_extract_line entity why, placed (not_extracted entity why refused))

    by_places : AllHold (places f n) ⊎ ((x : Failing) × FirstFalse (places f n) x) → IsDue (OfMend n f)
    by_places (inl all) = let due = some_placed n f None all in (due.0, due.1, placed due.2)
    by_places (inr (x, first)) = by_extraction x first (extracted_or_refused f n)

-- ---- one

one_placed : (n : ℕ) (f : Contents) (twice : Option Failing) (a b : Answer) (t u : List ℕ) → ((x : Failing) → ¬ FailsBy n f x) → OfPlaced n f twice a t
    → OfPlaced n f twice b u → (a ≡ b) × (t ≡ u)
one_placed n f twice a b t u none (mended x fails g m cs new is owed) q = absurd (none x fails)
one_placed n f twice a b t u none (unmended g is x fails why) q = absurd (none x fails)
one_placed n f twice a b t u none p (mended x fails g m cs new is owed) = absurd (none x fails)
one_placed n f twice a b t u none p (unmended g is x fails why) = absurd (none x fails)
one_placed n f twice a b t u none (not_extracted e r p) (not_extracted d s q) =
    let same = IsRefused-unique f n e d r s p q in
    (refl, ap (λ (k : ℕ). no_extract_line k r) same.0 ∙ ap (no_extract_line d) same.1)
one_placed n f twice a b t u none (not_extracted e r p) (closed g is all owed) = absurd (IsExtracted-IsRefused f n g e r is p)
one_placed n f twice a b t u none (closed g is all owed) (not_extracted d s q) = absurd (IsExtracted-IsRefused f n g d s is q)
one_placed n f twice a b t u none (closed g is all owed) (closed h too every due) =
    one_written h a b t u (subst (λ (c : Contents). OfWritten c a t) (IsExtracted-unique f n g h is too) owed) due

-- of a solid that is extracted its places hold
all_placed : (n : ℕ) (f g : Contents) (twice : Option Failing) (a : Answer) (t : List ℕ) → IsExtracted f n g → OfPlaced n f twice a t → AllHold (places f n)
all_placed n f g twice a t is (not_extracted e r p) = absurd (IsExtracted-IsRefused f n g e r is p)
all_placed n f g twice a t is (closed h too all owed) = all.placed
all_placed n f g twice a t is (mended x fails h m cs new made owed) = fails.placed
all_placed n f g twice a t is (unmended h too x fails why) = fails.placed

not_placed : (n : ℕ) (f g : Contents) (x : Failing) (a : Answer) (t : List ℕ) → IsExtracted f n g → FirstFalse (places f n) x → OfPlaced n f None a t → ⊥
not_placed n f g x a t is first p = FirstFalse-not_all (places f n) x first (all_placed n f g None a t is p)

pub one_mend : OneMendAnswer
one_mend n f a b t u none (placed p) (placed q) = one_placed n f None a b t u none.here p q
one_mend n f a b t u none (placed p) (again g is x o q) = absurd (not_placed n f g x a t is o.first p)
one_mend n f a b t u none (placed p) (misplaced g is x first other) = absurd (not_placed n f g x a t is first p)
one_mend n f a b t u none (again g is x o p) (placed q) = absurd (not_placed n f g x b u is o.first q)
one_mend n f a b t u none (again g is x o p) (again h too y w q) =
    one_placed n (once f n) (Some y) a b t u (λ z. none.again y z w)
    (subst (λ (k : Failing). OfPlaced n (once f n) (Some k) a t) (FirstFalse-one (places f n) x y o.first w.first) p) q
one_mend n f a b t u none (again g is x o p) (misplaced h too y first other) =
    absurd (other (subst (IsOnce n f) (FirstFalse-one (places f n) x y o.first first) o))
one_mend n f a b t u none (misplaced g is x first other) (placed q) = absurd (not_placed n f g x b u is first q)
one_mend n f a b t u none (misplaced g is x first other) (again h too y w q) =
    absurd (other (subst (IsOnce n f) (FirstFalse-one (places f n) y x w.first first) w))
one_mend n f a b t u none (misplaced g is x first other) (misplaced h too y at more) =
    (refl, ap fail_line (FirstFalse-one (places f n) x y first at))

-- ---- a closed solid

no_rule_fails : (n : ℕ) (f : Contents) (x : Failing) → IsClosed f n → FailsBy n f x → ⊥
no_rule_fails n f x all fails =
    FirstFalse-not_all (solid_obligations (solid_of f n)) x fails.first ((closed_is_all_hold (solid_of f n)).0 all.closed)

closed_placed : (n : ℕ) (f g : Contents) (a : Answer) (t : List ℕ) → IsClosed f n → IsExtracted f n g → OfPlaced n f None a t → OfWritten g a t
closed_placed n f g a t all is (not_extracted e r p) = absurd (IsExtracted-IsRefused f n g e r is p)
closed_placed n f g a t all is (closed h too every owed) = subst (λ (c : Contents). OfWritten c a t) (IsExtracted-unique f n h g too is) owed
closed_placed n f g a t all is (mended x fails h m cs new made owed) = absurd (no_rule_fails n f x all fails)
closed_placed n f g a t all is (unmended h too x fails why) = absurd (no_rule_fails n f x all fails)

pub closed_extracted : ClosedIsExtracted
closed_extracted n f g a t all is (placed p) = closed_placed n f g a t all is p
closed_extracted n f g a t all is (again h too x o p) = absurd (FirstFalse-not_all (places f n) x o.first all.placed)
closed_extracted n f g a t all is (misplaced h too x first other) = absurd (FirstFalse-not_all (places f n) x first all.placed)

pub one_mended : OneMended
one_mended n f g m cs new other p q = p.mended.is ∙ sym q.mended.is

-- a file of a text is the only one
only_file : (text : List ℕ) (f : Contents) → IsFile text f → IsOnly (IsFile text) f
only_file text f is = by_reading (one_reading text)
  where
    by_reading : HasOneReading text → IsOnly (IsFile text) f
    by_reading (inl one) = (is, λ other h. one.1.1 other h ∙ sym (one.1.1 f is))
    by_reading (inr none) = absurd (none.2 f is)

pub mended_back : MendedReadsBack
mended_back n f g m cs new text p is few = (only_file text new (reads_back new text p.writable is few), p.mended.closed)
