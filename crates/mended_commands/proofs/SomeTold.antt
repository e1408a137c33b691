-- What is owed of telling how a solid is mended: that there is something.
use Rattle.std.specs.Prelude.{◌⊎◌, ℕ, ◌<◌, ◌≤◌, List, [], ◌++◌, length, Option, Some, None, unwrap_or}
use Rattle.std.proofs.Common.{inl, inr}
use Rattle.std.proofs.lemmas.Bool.{cases_lt}
use Rattle.iges_base.specs.declared.TheConstants.{FILE_LIMIT}
use Rattle.iges_params.specs.Contents.{Contents}
use Rattle.iges_write.specs.Text.{IsText}
use Rattle.named_once.specs.Once.{once, dropped}
use Rattle.named_once.specs.declared.places.Dropped.{Dropped}
use Rattle.solid_data.specs.declared.verdict.Failing.{Failing}
use Rattle.iges_write.proofs.FileBack.{one_text}
use Rattle.command_replies.specs.declared.answer.Answer.{Answer}
use Rattle.command_replies.specs.declared.answer.Answer.TheVariants as answer
use Rattle.command_replies.specs.Texts.{fail_line}
use Rattle.solid_mend.specs.declared.mending.Unmended.TheVariants.{Stuck}
use Rattle.mend_commands.specs.Due.{OfMend, OfPlaced, unmended_line}
use Rattle.mend_commands.specs.Due as mend
use Rattle.mend_commands.proofs.OneMending.{some_mend}
use Rattle.mended_commands.specs.Due.{OfMended, placed, again, misplaced, OfToldPlaced, not_extracted, closed, unmended, OfTold, too_large, told_so, closed_told}
use Rattle.mended_commands.specs.Laws.{SomeMendedAnswer}

some_told : (f : Contents) (text : List ℕ) → (a : Answer) × (t : List ℕ) × OfTold f text a t
some_told f text = let one = one_text f in by_length one.0 one.1 (cases_lt FILE_LIMIT (length one.0))
  where
    by_length : (all : List ℕ) → IsText f all → (FILE_LIMIT < length all) ⊎ (length all ≤ FILE_LIMIT) → (a : Answer) × (t : List ℕ) × OfTold f text a t
    by_length all is (inl many) = (answer.TooLarge, [], too_large all is many)
    by_length all is (inr few) = (answer.Done, text, told_so all is few)

some_placed : (n : ℕ) (f : Contents) (twice : Option Failing) (ds : List Dropped) (a : Answer) (t : List ℕ) → OfPlaced n f twice a t
    → (b : Answer) × (u : List ℕ) × OfToldPlaced n f twice ds b u
some_placed n f twice ds a t (mend.not_extracted entity why refused) = (a, t, not_extracted entity why refused)
some_placed n f twice ds a t (mend.closed g extracted all owed) = let due = some_told g (closed_told n ds) in (due.0, due.1, closed g extracted all due.2)
some_placed n f twice ds a t (mend.mended x fails g m cs new is owed) =
    (answer.No, fail_line (unwrap_or twice x) ++ unmended_line Stuck, unmended g is.extracted.extracted x fails Stuck)
some_placed n f twice ds a t (mend.unmended g extracted x fails why) = (a, t, unmended g extracted x fails why)

pub some_mended : SomeMendedAnswer
some_mended n f limits = let due = some_mend n f limits in by_due due.0 due.1 due.2
  where
    by_due : (a : Answer) (t : List ℕ) → OfMend n f a t → (b : Answer) × (u : List ℕ) × OfMended n f b u
    by_due a t (mend.placed owed) = let due = some_placed n f None [] a t owed in (due.0, due.1, placed due.2)
    by_due a t (mend.again g extracted x twice owed) =
        let due = some_placed n (once f n) (Some x) (dropped f n) a t owed in
        (due.0, due.1, again g extracted x twice due.2)
    by_due a t (mend.misplaced g extracted x first other) = (a, t, misplaced g extracted x first other)
