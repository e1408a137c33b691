-- The answers that each command may owe of a file.
use Rattle.std.proofs.Common.{inl, inr, ℕ, List, sym, subst}
use Rattle.iges_params.specs.Contents.{Contents}
use Rattle.command_replies.specs.declared.answer.Answer.{Answer}
use Rattle.iges_solid_cmd.specs.Due.{OfShow, unplaced, shown, OfCertify, fails, certified, OfCertifyAll, no_solid, one_fails, too_many, all_certified}
use Rattle.file_replies.specs.Written.{OfWritten, too_large, written}
use Rattle.file_replies.specs.Due.{OfExtract, not_extracted, extracted}
use Rattle.iges_solid_cmd.specs.Due.{OfCompact, not_compacted, misplaced, compacted}
use Rattle.open_commands.specs.Due.{OfOpen, OfOpenVerify, OfShellLines}
use Rattle.open_commands.specs.Due as shell
use Rattle.orient_commands.specs.Due.{OfOrient, OfOrientVerify, IsAnswerOf, OfOrientLines}
use Rattle.orient_commands.specs.Due as orient
use Rattle.command_replies.proofs.Verdicts.{IsFileVerdict}

written_verdict : (f : Contents) (a : Answer) (t : List ℕ) → OfWritten f a t → IsFileVerdict a
written_verdict f a t (too_large text is many) = tt
written_verdict f a t (written text is few) = tt

shell_lines_verdict : (n : ℕ) (lines : List (List ℕ)) (f : Contents) (a : Answer) (t : List ℕ) → OfShellLines n lines f a t → IsFileVerdict a
shell_lines_verdict n lines f a t (shell.place_fails x first) = tt
shell_lines_verdict n lines f a t (shell.line_bad holds bad first) = tt
shell_lines_verdict n lines f a t (shell.lines_accepted holds legal) = tt

oriented_verdict : (lines : List (List ℕ)) (a : Answer) → IsAnswerOf lines a → IsFileVerdict a
oriented_verdict lines a (inl p) = subst IsFileVerdict (sym p.1) tt
oriented_verdict lines a (inr p) = subst IsFileVerdict (sym p.1) tt

orient_lines_verdict : (n : ℕ) (lines : List (List ℕ)) (f : Contents) (a : Answer) (t : List ℕ) → OfOrientLines n lines f a t → IsFileVerdict a
orient_lines_verdict n lines f a t (orient.place_fails x first) = tt
orient_lines_verdict n lines f a t (orient.uncounted holds x first) = tt
orient_lines_verdict n lines f a t (orient.line_bad holds counted bad first) = tt
orient_lines_verdict n lines f a t (orient.lines_accepted holds counted whole) = tt

pub show_verdict : (n : ℕ) (f : Contents) (a : Answer) (t : List ℕ) → OfShow n f a t → IsFileVerdict a
show_verdict n f a t (unplaced x first) = tt
show_verdict n f a t (shown all) = tt

pub certify_verdict : (n : ℕ) (f : Contents) (a : Answer) (t : List ℕ) → OfCertify n f a t → IsFileVerdict a
certify_verdict n f a t (fails x first) = tt
certify_verdict n f a t (certified text all made) = tt

pub certify_all_verdict : (f : Contents) (a : Answer) (t : List ℕ) → OfCertifyAll f a t → IsFileVerdict a
certify_all_verdict f a t (no_solid none) = tt
certify_all_verdict f a t (one_fails n x first) = tt
certify_all_verdict f a t (too_many n first) = tt
certify_all_verdict f a t (all_certified text some made book) = tt

pub extract_verdict : (n : ℕ) (f : Contents) (a : Answer) (t : List ℕ) → OfExtract n f a t → IsFileVerdict a
extract_verdict n f a t (not_extracted entity why refused) = tt
extract_verdict n f a t (extracted new is owed) = written_verdict new a t owed

pub open_verdict : (n : ℕ) (f : Contents) (a : Answer) (t : List ℕ) → OfOpen n f a t → IsFileVerdict a
open_verdict n f a t (shell.open_misplaced x first) = tt
open_verdict n f a t (shell.open_unsound x first) = tt
open_verdict n f a t (shell.open_certified text sound accepted) = tt

pub open_verify_verdict : (certificate : List ℕ) (f : Contents) (a : Answer) (t : List ℕ) → OfOpenVerify certificate f a t → IsFileVerdict a
open_verify_verdict certificate f a t (shell.certificate_too_large many) = tt
open_verify_verdict certificate f a t (shell.opening_bad few bad wrong) = tt
open_verify_verdict certificate f a t (shell.opened few m lines opens owed) = shell_lines_verdict m lines f a t owed

pub orient_verdict : (n : ℕ) (f : Contents) (a : Answer) (t : List ℕ) → OfOrient n f a t → IsFileVerdict a
orient_verdict n f a t (orient.misplaced x first) = tt
orient_verdict n f a t (orient.unready holds x first) = tt
orient_verdict n f a t (orient.oriented holds ready is) = oriented_verdict is.lines a is.answer

pub orient_verify_verdict : (certificate : List ℕ) (f : Contents) (a : Answer) (t : List ℕ) → OfOrientVerify certificate f a t → IsFileVerdict a
orient_verify_verdict certificate f a t (orient.text_too_large many) = tt
orient_verify_verdict certificate f a t (orient.head_bad few bad wrong) = tt
orient_verify_verdict certificate f a t (orient.named few m lines names owed) = orient_lines_verdict m lines f a t owed

pub compact_verdict : (n : ℕ) (f : Contents) (a : Answer) (t : List ℕ) → OfCompact n f a t → IsFileVerdict a
compact_verdict n f a t (not_compacted entity why refused) = tt
compact_verdict n f a t (misplaced x first) = tt
compact_verdict n f a t (compacted new is owed) = written_verdict new a t owed
