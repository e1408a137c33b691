-- What is owed of certifying a solid, by what the walk and the maker answer.
use Rattle.std.proofs.Common.{◌≡◌, ℕ, List, subst}
use Rattle.solid_data.specs.Obligations.{AllHold, FirstFalse}
use Rattle.solid_data.specs.SolidData.{SolidData}
use Rattle.solid_data.specs.declared.verdict.Failing.{Failing}
use Rattle.solid_data.proofs.ObligationLemmas.{AllHold-append, FirstFalse-append_front, FirstFalse-append_rest}
use Rattle.shell_rules.specs.ShellObligations.{solid_obligations}
use Rattle.brep_walk.specs.Places.{places}
use Rattle.brep_walk.specs.SolidOf.{solid_of}
use Rattle.iges_params.specs.Contents.{Contents}
use Rattle.solid_verdict.specs.Closed.{obligations}
use Rattle.cert_maker.specs.Certified.{IsCertificateText}
use Rattle.command_replies.specs.declared.answer.Answer.TheVariants.{Done, No}
use Rattle.command_replies.specs.Texts.{fail_line}
use Rattle.iges_solid_cmd.specs.Due.{OfCertify, fails, certified}

module _ (f : Contents) (n : ℕ) where
  -- a place is false
  pub misplaced_owed : (x : Failing) → FirstFalse (places f n) x → OfCertify n f No (fail_line x)
  unfolding obligations
  misplaced_owed x first = fails x (FirstFalse-append_front (places f n) (solid_obligations (solid_of f n)) x first)

  -- a rule on the shells fails
  pub unclosed_owed : (x : Failing) (s : SolidData) → AllHold (places f n) → s ≡ solid_of f n → FirstFalse (solid_obligations s) x
      → OfCertify n f No (fail_line x)
  unfolding obligations
  unclosed_owed x s placed is first =
      fails x (FirstFalse-append_rest (places f n) (solid_obligations (solid_of f n)) x placed
      (subst (λ (d : SolidData). FirstFalse (solid_obligations d) x) is first))

  -- a certificate was made
  pub certified_owed : (t : List ℕ) (s : SolidData) → AllHold (places f n) → s ≡ solid_of f n → AllHold (solid_obligations s) → IsCertificateText f n t
      → OfCertify n f Done t
  unfolding obligations
  certified_owed t s placed is closed made =
      certified t (AllHold-append (places f n) (solid_obligations (solid_of f n)) placed (subst (λ (d : SolidData). AllHold (solid_obligations d)) is closed))
      made
