-- Whatever the words and the bytes are, some answer is owed.
use Rattle.std.proofs.Common.{◌≡◌, length, ℕ, List, Option, Some, None, ◌≤◌, refl}
use Rattle.std.specs.Prelude.{◌*◌, MatchOption}
use Rattle.sample_solids.specs.Sample.{sample}
use Rattle.iges_solid_cmd.specs.declared.form.Command.{Command}
use Rattle.iges_solid_cmd.specs.Forms.{command_of, usage_line, IsSized}
use Rattle.iges_solid_cmd.specs.Texts.{sample_line}
use Rattle.command_replies.specs.Due.{Exactly}
use Rattle.iges_solid_cmd.specs.Due.{OfContents, OfSample, sampled, DueOf}
use Rattle.iges_solid_cmd.specs.OneAnswer.{SomeAnswerIsOwed}
use Rattle.cert_maker.proofs.SomeText.{some_text}
use Rattle.sample_solids.proofs.Closed.{closed}
use Rattle.sample_solids.proofs.ReadBack.{has_text}
use Rattle.iges_solid_cmd.proofs.FormWords.{sized}
use Rattle.command_replies.proofs.SomeDue.{IsSome, file_due}
use Rattle.iges_solid_cmd.specs.declared.form.Command.TheVariants as command
use Rattle.command_replies.specs.declared.answer.Answer.TheVariants as answer
use Rattle.iges_solid_cmd.proofs.Commands.{contents_due}

sample_due : (n : ℕ) → 3 ≤ n → n ≤ 200 → IsSome (OfSample n)
sample_due n low high =
    let text = has_text n low high in
    let mesh = closed n low high in
    let certificate = some_text (sample n) 1 mesh.made.limits mesh.closed in
    (answer.Done, sample_line n (n * n) (2 * n * n) (n * n) (length text.0) (length certificate.0), sampled text.0 certificate.0 text.1 certificate.1)

command_due : (c : Command) → IsSized c → (file certificate : List ℕ) → IsSome (DueOf c file certificate)
command_due (command.File c) size file certificate = file_due file (OfContents c certificate) (λ f few is. contents_due c certificate f file few is)
command_due (command.Sample n) size file certificate = sample_due n size.0 size.1

pub some_answer : SomeAnswerIsOwed
some_answer words file certificate = by_command (command_of words) refl
  where
    by_command : (o : Option Command) → command_of words ≡ o
        → IsSome (λ a t. MatchOption o (Exactly answer.Usage usage_line a t) (λ c. DueOf c file certificate a t))
    by_command None e = (answer.Usage, usage_line, (refl, refl))
    by_command (Some c) e = command_due c (sized words c e) file certificate
