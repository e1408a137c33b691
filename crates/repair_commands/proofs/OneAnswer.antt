-- One answer and one text are owed, but for rings.
use Rattle.std.specs.List.{AllZip}
use Rattle.std.specs.Prelude.{◌⊎◌, ℕ, ◌<◌, List, [], length, MatchOption, Option, Some, None, bytes_eq}
use Rattle.std.proofs.Common.{◌≡◌, ◌≤◌, inl, inr, Ok, Err, refl, sym, ap, ◌∙◌, subst, arith}
use Rattle.std.proofs.lemmas.Bool.{cases_Bool, cases_lt}
use Rattle.iges_base.proofs.Answers.{clash, done, err_is, failed, ok_is}
use Rattle.iges_base.specs.declared.TheConstants.{FILE_LIMIT}
use Rattle.line_layout.specs.declared.fault.LayoutFault.{LayoutFault}
use Rattle.line_layout.specs.Relaid.{Laid, relaid}
use Rattle.command_replies.specs.declared.answer.Answer.{Answer}
use Rattle.command_replies.specs.declared.answer.Answer.TheVariants as answer
use Rattle.command_replies.specs.Due.{Owed, Exactly, OfFile}
use Rattle.command_replies.proofs.One.{IsOne, no_file, no_file_one, owed_none}
use Rattle.command_replies.proofs.SomeDue.{file_due}
use Rattle.cert_lines.specs.Line.{cut_lines}
use Rattle.iges_params.specs.Contents.{Contents}
use Rattle.iges_params.proofs.FileExact.{IsFile-read_file}
use Rattle.iges_write.proofs.Made.{can_be_made}
use Rattle.orient_commands.specs.Laws.{AreSameOrRings}
use Rattle.mend_commands.specs.Due.{OfMend}
use Rattle.mend_commands.proofs.OneMending.{some_mend}
use Rattle.mended_commands.specs.Due.{OfMended}
use Rattle.mended_commands.proofs.SomeTold.{some_mended}
use Rattle.repair_commands.specs.SolidDue.{OfReorient}
use Rattle.repair_commands.proofs.FlagsDecided.{reorient_one, some_reorient}
use Rattle.repair_commands.specs.declared.request.LineCommand.{LineCommand}
use Rattle.repair_commands.specs.declared.request.LineCommand.TheVariants as «line»
use Rattle.repair_commands.specs.declared.request.Request.{Request}
use Rattle.repair_commands.specs.declared.request.Request.TheVariants as request
use Rattle.repair_commands.specs.Request.{request_of, usage_line}
use Rattle.repair_commands.specs.Due.{DueOf, OfLines, IsLaid, OfLayout, OfNoLayout, bad_layout, file_too_large, in_layout, not_in_layout, relayout}
use Rattle.repair_commands.specs.Due.{text_too_large}
use Rattle.repair_commands.specs.Laws.{AreOneReply, InLayoutIsTold, OneAnswerIsOwed, SomeAnswerIsOwed}
use Rattle.repair_commands.specs.Texts.{bad_layout_line, changes_text, in_layout_line}
use Rattle.repair_commands.proofs.SameBytes.{same_bytes, other_bytes}

ok_one : (x y : List ℕ) → done {F = LayoutFault} x ≡ done y → x ≡ y
ok_one x y e = ok_is x y e

err_one : (x y : LayoutFault) → failed {X = List ℕ} x ≡ failed y → x ≡ y
err_one x y e = err_is x y e

ok_not_err : (x : List ℕ) (y : LayoutFault) → done x ≡ failed y → ⊥
ok_not_err x y e = clash y x (sym e)

no_layout_one : (bytes : List ℕ) → IsOne (OfNoLayout bytes)
no_layout_one bytes a b t u (file_too_large p) (file_too_large q) = (refl, refl)
no_layout_one bytes a b t u (file_too_large p) (bad_layout few fault is) = absurd (omega (arith, p, few))
no_layout_one bytes a b t u (file_too_large p) (text_too_large few text is more) = absurd (omega (arith, p, few))
no_layout_one bytes a b t u (bad_layout few fault is) (file_too_large q) = absurd (omega (arith, q, few))
no_layout_one bytes a b t u (bad_layout few fault is) (bad_layout fewer other at) = (refl, ap bad_layout_line (err_one fault other (sym is ∙ at)))
no_layout_one bytes a b t u (bad_layout few fault is) (text_too_large fewer text at more) = absurd (ok_not_err text fault (sym at ∙ is))
no_layout_one bytes a b t u (text_too_large few text is more) (file_too_large q) = absurd (omega (arith, q, few))
no_layout_one bytes a b t u (text_too_large few text is more) (bad_layout fewer fault at) = absurd (ok_not_err text fault (sym is ∙ at))
no_layout_one bytes a b t u (text_too_large few text is more) (text_too_large fewer other at most) = (refl, refl)

-- where no file is made, none is within the limit
none_laid : (bytes text : List ℕ) (a : Answer) (t : List ℕ) → OfNoLayout bytes a t → IsLaid bytes text → ⊥
none_laid bytes text a t (file_too_large p) laid = let few = laid.few in omega (arith, p, few)
none_laid bytes text a t (bad_layout few fault is) laid = ok_not_err text fault (sym laid.is ∙ is)
none_laid bytes text a t (text_too_large few other is more) laid =
    let short : length other ≤ FILE_LIMIT = subst (λ (x : List ℕ). length x ≤ FILE_LIMIT) (ok_one text other (sym laid.is ∙ is)) laid.short in
    omega (arith, more, short)

layout_one : (bytes text : List ℕ) (q : LineCommand) → IsOne (OfLayout bytes text q)
layout_one bytes text q a b t u relayout relayout = (refl, refl)
layout_one bytes text q a b t u (in_layout same) (in_layout too) = (refl, refl)
layout_one bytes text q a b t u (in_layout same) (not_in_layout other) = absurd (other same)
layout_one bytes text q a b t u (not_in_layout other) (in_layout same) = absurd (other same)
layout_one bytes text q a b t u (not_in_layout other) (not_in_layout too) = (refl, refl)

lines_one : (q : LineCommand) (bytes : List ℕ) → IsOne (OfLines q bytes)
lines_one q bytes a b t u (inl x) (inl y) = no_layout_one bytes a b t u x y
lines_one q bytes a b t u (inl x) (inr y) = absurd (none_laid bytes y.0 a t x y.1)
lines_one q bytes a b t u (inr x) (inl y) = absurd (none_laid bytes x.0 b u y x.1)
lines_one q bytes a b t u (inr x) (inr y) =
    let same : x.0 ≡ y.0 = ok_one x.0 y.0 (sym x.1.is ∙ y.1.is) in
    layout_one bytes y.0 q a b t u (subst (λ (text : List ℕ). OfLayout bytes text q a t) same x.2) y.2

reorient_alike : (n : ℕ) (bytes : List ℕ) (a b : Answer) (t u : List ℕ) → OfFile bytes (OfReorient n) a t → OfFile bytes (OfReorient n) b u
    → (a ≡ b) × ((t ≡ u) ⊎ AllZip AreSameOrRings (cut_lines t) (cut_lines u))
reorient_alike n bytes a b t u (inl p) (inl q) = let same = no_file_one bytes a b t u p q in (same.0, inl same.1)
reorient_alike n bytes a b t u (inl p) (inr q) = absurd (no_file bytes q.1 (owed_none bytes a t p) q.0 q.2)
reorient_alike n bytes a b t u (inr p) (inl q) = absurd (no_file bytes p.1 (owed_none bytes b u q) p.0 p.2)
reorient_alike n bytes a b t u (inr p) (inr q) =
    let same : p.1 ≡ q.1 = ok_is p.1 q.1 (sym (IsFile-read_file bytes p.1 p.2) ∙ IsFile-read_file bytes q.1 q.2) in
    reorient_one n q.1 a b t u (subst (λ (f : Contents). OfReorient n f a t) same p.3) q.3

due_of_one : (q : Request) (bytes : List ℕ) (a b : Answer) (t u : List ℕ) → DueOf q bytes a t → DueOf q bytes b u → AreOneReply (Some q) a b t u
due_of_one (request.Lines c) bytes a b t u p q = lines_one c bytes a b t u p q
due_of_one (request.Reorient n) bytes a b t u p q = reorient_alike n bytes a b t u p q
due_of_one (request.Mend n choice) bytes a b t u p q = tt
due_of_one (request.Mended n choice) bytes a b t u p q = tt

pub due_one : OneAnswerIsOwed
due_one words bytes a b t u p q = by_request (request_of words) p q
  where
    by_request : (o : Option Request) → MatchOption o (Exactly answer.Usage usage_line a t) (λ c. DueOf c bytes a t)
        → MatchOption o (Exactly answer.Usage usage_line b u) (λ c. DueOf c bytes b u) → AreOneReply o a b t u
    by_request None p q = (p.0 ∙ sym q.0, p.1 ∙ sym q.1)
    by_request (Some c) p q = due_of_one c bytes a b t u p q

abbrev IsDue : Owed → Type 0
IsDue owed = (a : Answer) × (t : List ℕ) × owed a t

some_layout : (q : LineCommand) (bytes text : List ℕ) → IsDue (OfLayout bytes text q)
some_layout «line».Relayout bytes text = (answer.Done, text, relayout)
some_layout «line».Layout bytes text =
    elim (cases_Bool (bytes_eq bytes text)) [
      | inl e ↦ (answer.Done, in_layout_line, in_layout (same_bytes bytes text e))
      | inr e ↦ (answer.No, changes_text bytes, not_in_layout (other_bytes bytes text e))
    ]

some_of_lines : (q : LineCommand) (bytes : List ℕ) → IsDue (OfLines q bytes)
some_of_lines q bytes = by_size (cases_lt FILE_LIMIT (length bytes))
  where
    by_length : length bytes ≤ FILE_LIMIT → (text : List ℕ) → relaid bytes ≡ Ok text → (FILE_LIMIT < length text) ⊎ (length text ≤ FILE_LIMIT)
        → IsDue (OfLines q bytes)
    by_length few text is (inl long) = (answer.TooLarge, [], inl (text_too_large few text is long))
    by_length few text is (inr short) =
        let due = some_layout q bytes text in
        (due.0, due.1, inr (text, record { few = few; is = is; short = short }, due.2))

    by_laid : length bytes ≤ FILE_LIMIT → (made : Laid) → relaid bytes ≡ made → IsDue (OfLines q bytes)
    by_laid few (Ok text) is = by_length few text is (cases_lt FILE_LIMIT (length text))
    by_laid few (Err fault) is = (answer.BadFile, bad_layout_line fault, inl (bad_layout few fault is))

    by_size : (FILE_LIMIT < length bytes) ⊎ (length bytes ≤ FILE_LIMIT) → IsDue (OfLines q bytes)
    by_size (inl many) = (answer.TooLarge, [], inl (file_too_large many))
    by_size (inr few) = by_laid few (relaid bytes) refl

some_of_bytes : (q : Request) (bytes : List ℕ) → IsDue (DueOf q bytes)
some_of_bytes (request.Lines c) bytes = some_of_lines c bytes
some_of_bytes (request.Reorient n) bytes = file_due bytes (OfReorient n) (λ f few is. some_reorient n f (can_be_made bytes f few is).made.limits)
some_of_bytes (request.Mend n choice) bytes = file_due bytes (OfMend n) (λ f few is. some_mend n f (can_be_made bytes f few is).made.limits)
some_of_bytes (request.Mended n choice) bytes = file_due bytes (OfMended n) (λ f few is. some_mended n f (can_be_made bytes f few is).made.limits)

pub due_some : SomeAnswerIsOwed
due_some words bytes = by_request (request_of words)
  where
    by_request : (o : Option Request) → (a : Answer) × (t : List ℕ) × MatchOption o (Exactly answer.Usage usage_line a t) (λ q. DueOf q bytes a t)
    by_request None = (answer.Usage, usage_line, (refl, refl))
    by_request (Some q) = some_of_bytes q bytes

no_layout_done : (bytes : List ℕ) (a : Answer) (t : List ℕ) → OfNoLayout bytes a t → a ≡ answer.Done → ⊥
no_layout_done bytes a t (file_too_large p) e = cc
no_layout_done bytes a t (bad_layout few fault is) e = cc
no_layout_done bytes a t (text_too_large few text is more) e = cc

-- a file within the limit that stays as it is is made
kept_laid : (bytes : List ℕ) → length bytes ≤ FILE_LIMIT → relaid bytes ≡ Ok bytes → IsLaid bytes bytes
kept_laid bytes few is = record { few = few; is = is; short = few }

row_told : (bytes text : List ℕ) (a : Answer) (t : List ℕ) → relaid bytes ≡ Ok text → OfLayout bytes text «line».Layout a t
    → (a ≡ answer.Done → relaid bytes ≡ Ok bytes) × (relaid bytes ≡ Ok bytes → a ≡ answer.Done)
row_told bytes text a t made (in_layout same) = (λ says. made ∙ ap (λ (x : List ℕ). Ok x) (sym same), λ is. refl)
row_told bytes text a t made (not_in_layout other) = (λ says. absurd (let e = says in cc), λ is. absurd (other (ok_one bytes text (sym is ∙ made))))

pub in_layout_told : InLayoutIsTold
in_layout_told bytes a t few (inl p) = (λ says. absurd (no_layout_done bytes a t p says), λ is. absurd (none_laid bytes bytes a t p (kept_laid bytes few is)))
in_layout_told bytes a t few (inr p) = row_told bytes p.0 a t p.1.is p.2
