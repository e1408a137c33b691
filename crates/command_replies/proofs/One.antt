-- Of bytes that are no file, or a file, one answer and one text are owed.
use Rattle.std.proofs.Common.{◌≡◌, ◌≤◌, length, inl, inr, ℕ, List, refl, sym, ap, subst, ◌∙◌, arith}
use Rattle.iges_base.specs.declared.TheConstants.{FILE_LIMIT}
use Rattle.iges_params.specs.Contents.{Contents}
use Rattle.iges_params.specs.IsFile.{IsFile}
use Rattle.iges_params.proofs.Answers.{clash, ok_is, err_is}
use Rattle.iges_params.proofs.FileExact.{IsFile-read_file, Refusal-read_file}
use Rattle.command_replies.specs.declared.answer.Answer.{Answer}
use Rattle.command_replies.specs.Texts.{bad_file_line}
use Rattle.command_replies.specs.Outcome.{IsNoFile}
use Rattle.command_replies.specs.Due.{Owed, Exactly, OfNoFile, file_too_large, bad_file, OfFile, OfText, text_too_large, text_done}

-- at most one answer and text are owed
abbrev pub IsOne : Owed → Type 0
IsOne owed = (a b : Answer) (t u : List ℕ) → owed a t → owed b u → (a ≡ b) × (t ≡ u)

pub exactly_one : (a : Answer) (text : List ℕ) → IsOne (Exactly a text)
exactly_one a text b c t u p q = (p.0 ∙ sym q.0, p.1 ∙ sym q.1)

pub no_file_one : (bytes : List ℕ) → IsOne (OfNoFile bytes)
no_file_one bytes a b t u (file_too_large many) (file_too_large more) = (refl, refl)
no_file_one bytes a b t u (file_too_large many) (bad_file few fault is) = absurd (omega (arith, many, few))
no_file_one bytes a b t u (bad_file few fault is) (file_too_large many) = absurd (omega (arith, many, few))
no_file_one bytes a b t u (bad_file few fault is) (bad_file fewer other at) =
    let same : fault ≡ other = err_is {X = Contents} fault other (sym (Refusal-read_file bytes fault is) ∙ Refusal-read_file bytes other at) in
    (refl, ap bad_file_line same)

-- what is no file is none
pub no_file : (bytes : List ℕ) (f : Contents) → IsNoFile bytes → length bytes ≤ FILE_LIMIT → IsFile bytes f → ⊥
no_file bytes f (inl p) few is = absurd (omega (arith, p, few))
no_file bytes f (inr p) few is = clash p.1 f (sym (Refusal-read_file bytes p.1 p.2) ∙ IsFile-read_file bytes f is)

pub owed_none : (bytes : List ℕ) (a : Answer) (t : List ℕ) → OfNoFile bytes a t → IsNoFile bytes
owed_none bytes a t (file_too_large many) = inl many
owed_none bytes a t (bad_file few fault is) = inr (few, fault, is)

pub file_one : (bytes : List ℕ) (owed : Contents → Owed) → ((f : Contents) → IsOne (owed f)) → IsOne (OfFile bytes owed)
file_one bytes owed one a b t u (inl p) (inl q) = no_file_one bytes a b t u p q
file_one bytes owed one a b t u (inl p) (inr q) = absurd (no_file bytes q.1 (owed_none bytes a t p) q.0 q.2)
file_one bytes owed one a b t u (inr p) (inl q) = absurd (no_file bytes p.1 (owed_none bytes b u q) p.0 p.2)
file_one bytes owed one a b t u (inr p) (inr q) =
    let same : p.1 ≡ q.1 = ok_is p.1 q.1 (sym (IsFile-read_file bytes p.1 p.2) ∙ IsFile-read_file bytes q.1 q.2) in
    one q.1 a b t u (subst (λ (f : Contents). owed f a t) same p.3) q.3

pub text_one : (text : List ℕ) → IsOne (OfText text)
text_one text a b t u (text_too_large many) (text_too_large more) = (refl, refl)
text_one text a b t u (text_too_large many) (text_done few) = absurd (omega (arith, many, few))
text_one text a b t u (text_done few) (text_too_large many) = absurd (omega (arith, many, few))
text_one text a b t u (text_done few) (text_done fewer) = (refl, refl)
