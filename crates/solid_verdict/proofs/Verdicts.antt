-- Verdicts, and what they come from.
use Rattle.std.specs.Prelude.{◌≡◌, ℕ, List}
use Rattle.std.proofs.Common.{refl, ap, subst}
use Rattle.iges_params.specs.Contents.{Contents}
use Rattle.brep_walk.specs.Places.{places}
use Rattle.brep_walk.specs.SolidOf.{solid_of}
use Rattle.solid_data.specs.SolidData.{SolidData}
use Rattle.solid_data.specs.Obligations.{Obligation, AllHold, FirstFalse, IsVerdict}
use Rattle.solid_data.specs.declared.verdict.Failing.{Failing}
use Rattle.solid_data.specs.declared.verdict.Verdict.{Verdict}
use Rattle.solid_data.specs.declared.verdict.Verdict.TheVariants.{Closed, Fails}
use Rattle.solid_data.proofs.ObligationLemmas.{FirstFalse-one, FirstFalse-not_all, FirstFalse-append_front, FirstFalse-append_rest, AllHold-append}
use Rattle.shell_rules.specs.ShellObligations.{solid_obligations}
use Rattle.solid_verdict.specs.Closed.{obligations, IsVerdictOn}

pub IsVerdict-one : (os : List Obligation) (a b : Verdict) → IsVerdict os a → IsVerdict os b → a ≡ b
IsVerdict-one os Closed Closed p q = refl
IsVerdict-one os Closed (Fails y) p q = absurd (FirstFalse-not_all os y q p)
IsVerdict-one os (Fails x) Closed p q = absurd (FirstFalse-not_all os x p q)
IsVerdict-one os (Fails x) (Fails y) p q = ap Fails (FirstFalse-one os x y p q)

pub place_fails : (f : Contents) (n : ℕ) (x : Failing) → FirstFalse (places f n) x → IsVerdictOn f n (Fails x)
unfolding obligations
place_fails f n x bad = FirstFalse-append_front (places f n) (solid_obligations (solid_of f n)) x bad

pub on_file : (f : Contents) (n : ℕ) (s : SolidData) (v : Verdict) → s ≡ solid_of f n → AllHold (places f n) → IsVerdict (solid_obligations s) v
    → IsVerdictOn f n v
unfolding obligations
on_file f n s Closed same placed hold = AllHold-append (places f n) (solid_obligations (solid_of f n)) placed
    (subst (λ t. AllHold (solid_obligations t)) same hold)
on_file f n s (Fails x) same placed bad = FirstFalse-append_rest (places f n) (solid_obligations (solid_of f n)) x placed
    (subst (λ t. FirstFalse (solid_obligations t) x) same bad)

pub one_on_file : (f : Contents) (n : ℕ) (a b : Verdict) → IsVerdictOn f n a → IsVerdictOn f n b → a ≡ b
one_on_file f n a b = IsVerdict-one (obligations f n) a b
