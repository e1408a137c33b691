-- What is owed is one answer with one text.
use Rattle.std.proofs.Common.{◌≡◌, ◌⊎◌, length, inl, inr, ℕ, List, Option, Some, None, refl, sym, ap, subst, ◌∙◌}
use Rattle.std.specs.Prelude.{◌*◌, MatchOption, IsSomeAnd}
use Rattle.iges_params.specs.Contents.{Contents}
use Rattle.iges_params.proofs.Answers.{ok_is}
use Rattle.iges_params.proofs.FileExact.{IsFile-read_file}
use Rattle.file_replies.proofs.WrittenFiles.{text_is}
use Rattle.cert_maker.proofs.OneText.{one_text as one_certificate}
use Rattle.sample_solids.specs.Sample.{sample}
use Rattle.iges_solid_cmd.specs.declared.form.Command.{Command}
use Rattle.iges_solid_cmd.specs.Forms.{command_of, usage_line}
use Rattle.iges_solid_cmd.specs.Texts.{sample_line}
use Rattle.command_replies.specs.Due.{Exactly, OfFile, Owed}
use Rattle.iges_solid_cmd.specs.Due.{OfContents, OfSample, sampled, DueOf}
use Rattle.iges_solid_cmd.specs.OneAnswer.{MayDiffer, OneAnswerIsOwed}
use Rattle.command_replies.proofs.One.{IsOne, no_file, no_file_one, owed_none}
use Rattle.iges_solid_cmd.specs.declared.form.Command.TheVariants as command
use Rattle.command_replies.specs.declared.answer.Answer.TheVariants as answer
use Rattle.iges_solid_cmd.proofs.Commands.{IsAlike, alike, contents_one}

-- of a file, or of bytes that are none
file_alike : (c : Command) (bytes : List ℕ) (owed : Contents → Owed) → ((f : Contents) → IsAlike c (owed f)) → IsAlike c (OfFile bytes owed)
file_alike c bytes owed one a b t u (inl p) (inl q) = let same = no_file_one bytes a b t u p q in (same.0, inl same.1)
file_alike c bytes owed one a b t u (inl p) (inr q) = absurd (no_file bytes q.1 (owed_none bytes a t p) q.0 q.2)
file_alike c bytes owed one a b t u (inr p) (inl q) = absurd (no_file bytes p.1 (owed_none bytes b u q) p.0 p.2)
file_alike c bytes owed one a b t u (inr p) (inr q) =
    let same : p.1 ≡ q.1 = ok_is p.1 q.1 (sym (IsFile-read_file bytes p.1 p.2) ∙ IsFile-read_file bytes q.1 q.2) in
    one q.1 a b t u (subst (λ (f : Contents). owed f a t) same p.3) q.3

-- the lengths of one text and of one certificate
sample_one : (n : ℕ) → IsOne (OfSample n)
sample_one n a b t u (sampled text certificate is made) (sampled other second at formed) =
    let texts = ap (λ (xs : List ℕ). length xs) (text_is (sample n) text other is at) in
    let certificates = ap (λ (xs : List ℕ). length xs) (one_certificate (sample n) 1 certificate second made formed) in
    let line : ℕ → ℕ → List ℕ = sample_line n (n * n) (2 * n * n) (n * n) in
    (refl, ap (λ k. line k (length certificate)) texts ∙ ap (line (length other)) certificates)

due_of_one : (c : Command) (file certificate : List ℕ) → IsAlike c (DueOf c file certificate)
due_of_one (command.File c) file certificate = file_alike (command.File c) file (OfContents c certificate) (contents_one c certificate)
due_of_one (command.Sample n) file certificate = alike (command.Sample n) (OfSample n) (sample_one n)

pub due_one : OneAnswerIsOwed
due_one words file certificate a b t u p q = by_command (command_of words) p q
  where
    by_command : (o : Option Command) → MatchOption o (Exactly answer.Usage usage_line a t) (λ c. DueOf c file certificate a t)
        → MatchOption o (Exactly answer.Usage usage_line b u) (λ c. DueOf c file certificate b u)
        → (a ≡ b) × ((t ≡ u) ⊎ IsSomeAnd o (λ c. MayDiffer c a t u))
    by_command None p q = (p.0 ∙ sym q.0, inl (p.1 ∙ sym q.1))
    by_command (Some c) p q = due_of_one c file certificate a b t u p q
