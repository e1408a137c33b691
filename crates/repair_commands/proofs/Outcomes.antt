-- From a reply to the outcome of a run.
use Rattle.std.proofs.Common.{◌≡◌, inl, inr, ℕ, List, [], refl, sym, subst, Option, Some, None}
use Rattle.std.specs.Prelude.{MatchOption, IsSome}
use Rattle.iges_io.specs.Reading.{Told}
use Rattle.iges_io.specs.Faults.{Rose}
use Rattle.command_replies.specs.declared.reply.Reply.{Reply}
use Rattle.command_replies.specs.declared.answer.Answer.{Answer}
use Rattle.command_replies.specs.declared.answer.Answer.TheVariants.{Usage, ReadFault, WriteFault}
use Rattle.command_replies.specs.Due as shared
use Rattle.command_replies.specs.Due.{Exactly, OfNoFile}
use Rattle.iges_params.specs.Contents.{Contents}
use Rattle.orient_commands.specs.Due.{OfOrient, IsAnswerOf}
use Rattle.orient_commands.specs.Due as orient
use Rattle.repair_commands.specs.SolidDue.{OfReorient}
use Rattle.file_replies.specs.Written as writing
use Rattle.file_replies.specs.Written.{OfWritten}
use Rattle.repair_commands.specs.SolidDue as reorient
use Rattle.mend_commands.specs.Due.{OfMend}
use Rattle.mend_commands.specs.Due as mend
use Rattle.mended_commands.specs.Due.{OfMended, OfTold}
use Rattle.mended_commands.specs.Due as mended
use Rattle.solid_mend.specs.declared.mending.Choice.{Choice}
use Rattle.command_replies.proofs.Endings as endings
use Rattle.command_replies.proofs.Endings.{IsJudged, IsJudgement, some_told}
use Rattle.command_replies.specs.Ending.{Finishes, IsComplete, Outcome}
use Rattle.command_replies.specs.Replies.{IsFileTold, IsReply}
use Rattle.repair_commands.specs.declared.request.LineCommand.{LineCommand}
use Rattle.repair_commands.specs.declared.request.Request.{Request}
use Rattle.repair_commands.specs.declared.request.Request.TheVariants as request
use Rattle.repair_commands.specs.Request.{request_of, usage_line}
use Rattle.repair_commands.specs.Due.{DueOf, OfLines, OfLayout, OfNoLayout, bad_layout, file_too_large, in_layout, not_in_layout, relayout, text_too_large}
use Rattle.repair_commands.specs.Owed.{IsOwed}

-- what is owed of the bytes that were told
pub bytes_owed : (q : LineCommand) (file : Option (List ℕ)) (bytes text : List ℕ) (reply : Reply) → Told file bytes → text ≡ bytes
    → OfLines q text reply.answer reply.text → IsReply (OfLines q) file reply
bytes_owed q file bytes text reply told same owed = record {
  bytes = bytes;
  told = told;
  owed = subst (λ (b : List ℕ). OfLines q b reply.answer reply.text) same owed;
}

-- what is owed of the file that was told
pub file_owed : (n : ℕ) (left : Option (List ℕ)) (f : Contents) (reply : Reply) → IsFileTold left f → OfReorient n f reply.answer reply.text
    → IsReply (DueOf (request.Reorient n)) left reply
file_owed n left f reply told owed = record { bytes = told.bytes; told = told.told; owed = inr (told.few, f, told.is, owed) }

pub no_file_owed : (n : ℕ) (left : Option (List ℕ)) (reply : Reply) → IsReply OfNoFile left reply → IsReply (DueOf (request.Reorient n)) left reply
no_file_owed n left reply none = record { bytes = none.bytes; told = none.told; owed = inl none.owed }

-- the same of mending
pub mend_owed : (n : ℕ) (choice : Choice) (left : Option (List ℕ)) (f : Contents) (reply : Reply) → IsFileTold left f → OfMend n f reply.answer reply.text
    → IsReply (DueOf (request.Mend n choice)) left reply
mend_owed n choice left f reply told owed = record { bytes = told.bytes; told = told.told; owed = inr (told.few, f, told.is, owed) }

pub no_mend_owed : (n : ℕ) (choice : Choice) (left : Option (List ℕ)) (reply : Reply) → IsReply OfNoFile left reply
    → IsReply (DueOf (request.Mend n choice)) left reply
no_mend_owed n choice left reply none = record { bytes = none.bytes; told = none.told; owed = inl none.owed }

pub mended_owed : (n : ℕ) (choice : Choice) (left : Option (List ℕ)) (f : Contents) (reply : Reply) → IsFileTold left f → OfMended n f reply.answer reply.text
    → IsReply (DueOf (request.Mended n choice)) left reply
mended_owed n choice left f reply told owed = record { bytes = told.bytes; told = told.told; owed = inr (told.few, f, told.is, owed) }

pub no_mended_owed : (n : ℕ) (choice : Choice) (left : Option (List ℕ)) (reply : Reply) → IsReply OfNoFile left reply
    → IsReply (DueOf (request.Mended n choice)) left reply
no_mended_owed n choice left reply none = record { bytes = none.bytes; told = none.told; owed = inl none.owed }

-- a reply to what the words ask for
pub request_owed : (words : List (List ℕ)) (file : Option (List ℕ)) (reply : Reply) (q : Request) → request_of words ≡ Some q → IsReply (DueOf q) file reply
    → IsOwed words file reply.answer reply.text
request_owed words file reply q is owed = record {
  bytes = owed.bytes;
  told = owed.told;
  due = subst (λ o. MatchOption o (Exactly Usage usage_line reply.answer reply.text) (λ q. DueOf q owed.bytes reply.answer reply.text)) (sym is) owed.owed;
}

-- and the usage line, for words of no listed form
pub usage_owed : (words : List (List ℕ)) (file : Option (List ℕ)) (reply : Reply) → request_of words ≡ None → (reply.answer ≡ Usage) × (reply.text ≡ usage_line)
    → IsOwed words file reply.answer reply.text
usage_owed words file reply is usage =
    let bytes = some_told file in
    record {
      bytes = bytes.0;
      told = bytes.1;
      due = subst (λ o. MatchOption o (Exactly Usage usage_line reply.answer reply.text) (λ q. DueOf q bytes.0 reply.answer reply.text)) (sym is) usage;
    }

no_layout_judgement : (bytes : List ℕ) (a : Answer) (t : List ℕ) → OfNoLayout bytes a t → IsJudgement a
no_layout_judgement bytes a t (file_too_large p) = tt
no_layout_judgement bytes a t (bad_layout few fault is) = tt
no_layout_judgement bytes a t (text_too_large few text is more) = tt

layout_judgement : (bytes text : List ℕ) (q : LineCommand) (a : Answer) (t : List ℕ) → OfLayout bytes text q a t → IsJudgement a
layout_judgement bytes text q a t relayout = tt
layout_judgement bytes text q a t (in_layout same) = tt
layout_judgement bytes text q a t (not_in_layout other) = tt

lines_judgement : (q : LineCommand) (bytes : List ℕ) (a : Answer) (t : List ℕ) → OfLines q bytes a t → IsJudgement a
lines_judgement q bytes a t (inl p) = no_layout_judgement bytes a t p
lines_judgement q bytes a t (inr p) = layout_judgement bytes p.0 q a t p.2

no_file_judgement : (bytes : List ℕ) (a : Answer) (t : List ℕ) → OfNoFile bytes a t → IsJudgement a
no_file_judgement bytes a t (shared.file_too_large p) = tt
no_file_judgement bytes a t (shared.bad_file few fault p) = tt

orient_judgement : (lines : List (List ℕ)) (a : Answer) → IsAnswerOf lines a → IsJudgement a
orient_judgement lines a (inl p) = subst IsJudgement (sym p.1) tt
orient_judgement lines a (inr p) = subst IsJudgement (sym p.1) tt

unoriented_judgement : (n : ℕ) (f : Contents) (a : Answer) (t : List ℕ) → OfOrient n f a t → IsJudgement a
unoriented_judgement n f a t (orient.misplaced x first) = tt
unoriented_judgement n f a t (orient.unready all x first) = tt
unoriented_judgement n f a t (orient.oriented all ready is) = orient_judgement is.lines a is.answer

written_judgement : (f : Contents) (a : Answer) (t : List ℕ) → OfWritten f a t → IsJudgement a
written_judgement f a t (writing.too_large text is many) = tt
written_judgement f a t (writing.written text is few) = tt

reorient_judgement : (n : ℕ) (f : Contents) (a : Answer) (t : List ℕ) → OfReorient n f a t → IsJudgement a
reorient_judgement n f a t (reorient.unoriented none owed) = unoriented_judgement n f a t owed
reorient_judgement n f a t (reorient.not_reoriented x flags entity why refused) = tt
reorient_judgement n f a t (reorient.reoriented new is owed) = written_judgement new a t owed

placed_judgement : (n : ℕ) (f : Contents) (twice : _) (a : Answer) (t : List ℕ) → mend.OfPlaced n f twice a t → IsJudgement a
placed_judgement n f twice a t (mend.not_extracted entity why refused) = tt
placed_judgement n f twice a t (mend.closed g extracted closed owed) = written_judgement g a t owed
placed_judgement n f twice a t (mend.mended x fails g m cs new is owed) = written_judgement new a t owed
placed_judgement n f twice a t (mend.unmended g extracted x fails why) = tt

mend_judgement : (n : ℕ) (f : Contents) (a : Answer) (t : List ℕ) → OfMend n f a t → IsJudgement a
mend_judgement n f a t (mend.placed owed) = placed_judgement n f _ a t owed
mend_judgement n f a t (mend.again g extracted x twice owed) = placed_judgement n _ _ a t owed
mend_judgement n f a t (mend.misplaced g extracted x first other) = tt

told_judgement : (f : Contents) (text : List ℕ) (a : Answer) (t : List ℕ) → OfTold f text a t → IsJudgement a
told_judgement f text a t (mended.too_large all is many) = tt
told_judgement f text a t (mended.told_so all is few) = tt

told_placed_judgement : (n : ℕ) (f : Contents) (twice : _) (ds : _) (a : Answer) (t : List ℕ) → mended.OfToldPlaced n f twice ds a t → IsJudgement a
told_placed_judgement n f twice ds a t (mended.not_extracted entity why refused) = tt
told_placed_judgement n f twice ds a t (mended.closed g extracted closed owed) = told_judgement g _ a t owed
told_placed_judgement n f twice ds a t (mended.mended x fails g m cs new is numbers owed) = told_judgement new _ a t owed
told_placed_judgement n f twice ds a t (mended.unmended g extracted x fails why) = tt

mended_judgement : (n : ℕ) (f : Contents) (a : Answer) (t : List ℕ) → OfMended n f a t → IsJudgement a
mended_judgement n f a t (mended.placed owed) = told_placed_judgement n f _ _ a t owed
mended_judgement n f a t (mended.again g extracted x twice owed) = told_placed_judgement n _ _ _ a t owed
mended_judgement n f a t (mended.misplaced g extracted x first other) = tt

due_judgement : (q : Request) (bytes : List ℕ) (a : Answer) (t : List ℕ) → DueOf q bytes a t → IsJudgement a
due_judgement (request.Lines c) bytes a t due = lines_judgement c bytes a t due
due_judgement (request.Reorient n) bytes a t (inl p) = no_file_judgement bytes a t p
due_judgement (request.Reorient n) bytes a t (inr p) = reorient_judgement n p.1 a t p.3
due_judgement (request.Mend n choice) bytes a t (inl p) = no_file_judgement bytes a t p
due_judgement (request.Mend n choice) bytes a t (inr p) = mend_judgement n p.1 a t p.3
due_judgement (request.Mended n choice) bytes a t (inl p) = no_file_judgement bytes a t p
due_judgement (request.Mended n choice) bytes a t (inr p) = mended_judgement n p.1 a t p.3

judged : (words : List (List ℕ)) (file : Option (List ℕ)) (a : Answer) (t : List ℕ) → IsOwed words file a t → IsJudged (request_of words) a
judged words file a t owed = by_request (request_of words) owed.due
  where
    by_request : (o : Option Request) → MatchOption o (Exactly Usage usage_line a t) (λ q. DueOf q owed.bytes a t) → IsJudged o a
    by_request None due = due.0
    by_request (Some q) due = due_judgement q owed.bytes a t due

module _ (words : List (List ℕ)) (file before after : Option (List ℕ)) (faults now : ℕ) (answer : Answer) (text : List ℕ) (result : Answer)
    (owed : IsOwed words file answer text) where
  is : IsJudged (request_of words) answer
  is = judged words file answer text owed

  -- what is owed was written, or a part of it
  pub finished : Finishes before after faults now answer text result → Outcome (IsOwed words file) before after result
  finished done = endings.finished (IsOwed words file) before after (request_of words) faults now answer text result owed is done

  pub no_read_fault : Finishes before after faults now answer text result → result ≡ ReadFault → ⊥
  no_read_fault done fault = endings.no_read_fault (IsOwed words file) before after (request_of words) faults now answer text result owed is done fault

  pub write_fault : Finishes before after faults now answer text result → result ≡ WriteFault → Rose faults now
  write_fault done fault = endings.write_fault (IsOwed words file) before after (request_of words) faults now answer text result owed is done fault

  -- the answer to words of a listed form where no write failed
  pub complete : Finishes before after faults now answer text result → IsSome (request_of words) → (Rose faults now → ⊥) → IsComplete result
  complete done some no_rise = endings.complete (IsOwed words file) before after (request_of words) faults now answer text result owed is done some no_rise
