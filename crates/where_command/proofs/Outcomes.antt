-- From a reply to the outcome of a run.
use Rattle.std.proofs.Common.{◌≡◌, inl, inr, ℕ, List, [], refl, sym, subst, Option, Some, None, Bool, true, false}
use Rattle.std.specs.Prelude.{MatchOption, IsSome}
use Rattle.iges_io.specs.Reading.{Told}
use Rattle.iges_io.specs.Faults.{Rose}
use Rattle.where_places.specs.declared.placed_file.PlacedFile.{PlacedFile}
use Rattle.solid_data.specs.declared.verdict.Verdict.{Verdict}
use Rattle.solid_data.specs.declared.verdict.Verdict.TheVariants.{Closed, Fails}
use Rattle.command_replies.specs.declared.reply.Reply.{Reply}
use Rattle.command_replies.specs.declared.answer.Answer.{Answer}
use Rattle.command_replies.specs.declared.answer.Answer.TheVariants.{Usage, ReadFault, WriteFault}
use Rattle.command_replies.specs.Due.{Exactly}
use Rattle.command_replies.proofs.Endings as endings
use Rattle.command_replies.proofs.Endings.{IsJudged, IsJudgement, some_told}
use Rattle.command_replies.specs.Ending.{Finishes, IsComplete, Outcome}
use Rattle.command_replies.specs.Replies.{IsReply}
use Rattle.solid_hints.specs.ShellHints.{ShellRemedies}
use Rattle.where_overview.specs.Overview.{all_close}
use Rattle.where_command.specs.declared.asked.Asked.{Asked}
use Rattle.where_command.specs.declared.asked.Asked.TheVariants as asked
use Rattle.where_command.specs.Asked.{asked_of, usage_line}
use Rattle.where_command.specs.Due.{DueFor, DueOf, OfContents, OfNoFile, answer_to, answer_where, bad_file, file_too_large}
use Rattle.where_command.specs.Owed.{IsOwed, IsPlacedTold}

-- what is owed of a file that was told
pub contents_owed : (q : Asked) (file : Option (List ℕ)) (p : PlacedFile) (reply : Reply) → IsPlacedTold file p
    → (remedies : List ShellRemedies) × OfContents q p remedies reply.answer reply.text → IsReply (DueFor q) file reply
contents_owed q file p reply there (remedies, owed) = record { bytes = there.bytes; told = there.told; owed = (remedies, inr (there.few, p, there.is, owed)) }

-- and of bytes that are no file
pub no_file_owed : (q : Asked) (file : Option (List ℕ)) (reply : Reply) → IsReply OfNoFile file reply → IsReply (DueFor q) file reply
no_file_owed q file reply owed = record { bytes = owed.bytes; told = owed.told; owed = ([], inl (refl, owed.owed)) }

-- what is owed for what the words ask for, with these remedies
abbrev DueIf : List ShellRemedies → List ℕ → Answer → List ℕ → Option Asked → Type 0
DueIf remedies bytes a t o = MatchOption o ((remedies ≡ []) × Exactly Usage usage_line a t) (λ q. DueOf q bytes remedies a t)

-- a reply to what the words ask for
pub asked_owed : (words : List (List ℕ)) (file : Option (List ℕ)) (reply : Reply) (q : Asked) → asked_of words ≡ Some q → IsReply (DueFor q) file reply
    → IsOwed words file reply.answer reply.text
asked_owed words file reply q is owed = record {
  bytes = owed.bytes;
  told = owed.told;
  due = (owed.owed.0, subst (DueIf owed.owed.0 owed.bytes reply.answer reply.text) (sym is) owed.owed.1);
}

-- and the usage line, for words of no listed form
pub usage_owed : (words : List (List ℕ)) (file : Option (List ℕ)) (reply : Reply) → asked_of words ≡ None → (reply.answer ≡ Usage) × (reply.text ≡ usage_line)
    → IsOwed words file reply.answer reply.text
usage_owed words file reply is usage =
    let bytes = some_told file in
    record { bytes = bytes.0; told = bytes.1; due = ([], subst (DueIf [] bytes.0 reply.answer reply.text) (sym is) (refl, usage)) }

to_judgement : (v : Verdict) → IsJudgement (answer_to v)
to_judgement Closed = tt
to_judgement (Fails x) = tt

where_judgement : (b : Bool) → IsJudgement (answer_where b)
where_judgement true = tt
where_judgement false = tt

contents_judgement : (q : Asked) (p : PlacedFile) (remedies : List ShellRemedies) (a : Answer) (t : List ℕ) → OfContents q p remedies a t → IsJudgement a
contents_judgement asked.Overview p remedies a t (none, owed) = subst IsJudgement (sym owed.2) (where_judgement (all_close owed.0))
contents_judgement (asked.Solid n listing) p remedies a t owed = subst IsJudgement (sym owed.2) (to_judgement owed.0)

no_file_judgement : (bytes : List ℕ) (a : Answer) (t : List ℕ) → OfNoFile bytes a t → IsJudgement a
no_file_judgement bytes a t (file_too_large p) = tt
no_file_judgement bytes a t (bad_file few fault p) = tt

due_judgement : (q : Asked) (bytes : List ℕ) (remedies : List ShellRemedies) (a : Answer) (t : List ℕ) → DueOf q bytes remedies a t → IsJudgement a
due_judgement q bytes remedies a t (inl p) = no_file_judgement bytes a t p.1
due_judgement q bytes remedies a t (inr p) = contents_judgement q p.1 remedies a t p.3

judged : (words : List (List ℕ)) (file : Option (List ℕ)) (a : Answer) (t : List ℕ) → IsOwed words file a t → IsJudged (asked_of words) a
judged words file a t owed = by_asked (asked_of words) owed.due.1
  where
    by_asked : (o : Option Asked) → DueIf owed.due.0 owed.bytes a t o → IsJudged o a
    by_asked None due = due.1.0
    by_asked (Some q) due = due_judgement q owed.bytes owed.due.0 a t due

module _ (words : List (List ℕ)) (file before after : Option (List ℕ)) (faults now : ℕ) (answer : Answer) (text : List ℕ) (result : Answer)
    (owed : IsOwed words file answer text) where
  is : IsJudged (asked_of words) answer
  is = judged words file answer text owed

  -- what is owed was written, or a part of it
  pub finished : Finishes before after faults now answer text result → Outcome (IsOwed words file) before after result
  finished done = endings.finished (IsOwed words file) before after (asked_of words) faults now answer text result owed is done

  pub no_read_fault : Finishes before after faults now answer text result → result ≡ ReadFault → ⊥
  no_read_fault done fault = endings.no_read_fault (IsOwed words file) before after (asked_of words) faults now answer text result owed is done fault

  pub write_fault : Finishes before after faults now answer text result → result ≡ WriteFault → Rose faults now
  write_fault done fault = endings.write_fault (IsOwed words file) before after (asked_of words) faults now answer text result owed is done fault

  -- the answer to words of a listed form where no write failed
  pub complete : Finishes before after faults now answer text result → IsSome (asked_of words) → (Rose faults now → ⊥) → IsComplete result
  complete done some no_rise = endings.complete (IsOwed words file) before after (asked_of words) faults now answer text result owed is done some no_rise
