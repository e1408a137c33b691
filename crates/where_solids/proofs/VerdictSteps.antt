-- The verdict, shell by shell.
use Rattle.std.specs.Prelude.{◌≡◌, ℕ, ◌+◌, ◌≤◌, List, ◌++◌, length, Some, slice_get, drop}
use Rattle.std.specs.List.{enumerate_from}
use Rattle.std.proofs.Common.{sym, ap, subst}
use Rattle.std.proofs.lemmas.List.{drop_all}
use Rattle.solid_data.specs.Obligations.{Obligation, AllHold, FirstFalse, IsVerdict, of_each}
use Rattle.solid_data.specs.SolidData.{SolidData}
use Rattle.solid_data.specs.declared.solid.Shell.{Shell}
use Rattle.solid_data.specs.declared.verdict.Failing.{Failing}
use Rattle.solid_data.specs.declared.verdict.Verdict.{Verdict}
use Rattle.solid_data.specs.declared.verdict.Verdict.TheVariants.{Closed, Fails}
use Rattle.solid_data.proofs.Members.{split_at}
use Rattle.solid_data.proofs.ObligationLemmas.{AllHold-append, FirstFalse-append_front, FirstFalse-append_rest}
use Rattle.shell_rules.specs.ShellObligations.{shell_obligations, solid_obligations}

pub verdict_rest : (os ps : List Obligation) (v : Verdict) → AllHold os → IsVerdict ps v → IsVerdict (os ++ ps) v
verdict_rest os ps Closed h k = AllHold-append os ps h k
verdict_rest os ps (Fails x) h k = FirstFalse-append_rest os ps x h k

abbrev from_shell : SolidData → ℕ → List Obligation
from_shell s i = of_each (shell_obligations s) (enumerate_from i (drop i s.shells))

-- the verdict on the shells from the i-th on is that on all
abbrev pub Rests : SolidData → ℕ → Type 0
Rests s i = (v : Verdict) → IsVerdict (of_each (shell_obligations s) (enumerate_from i (drop i s.shells))) v → IsVerdict (solid_obligations s) v

split : (s : SolidData) (i : ℕ) (h : Shell) → slice_get s.shells i ≡ Some h → from_shell s i ≡ shell_obligations s (i, h) ++ from_shell s (i + 1)
split s i h at = ap (λ hs. of_each (shell_obligations s) (enumerate_from i hs)) (split_at s.shells i h at)

pub rests_none : (s : SolidData) → Rests s 0
unfolding solid_obligations
rests_none s v k = k

pub rests_more : (s : SolidData) (i : ℕ) (h : Shell) → slice_get s.shells i ≡ Some h → AllHold (shell_obligations s (i, h)) → Rests s i → Rests s (i + 1)
rests_more s i h at holds rests v k =
    rests v (subst (λ os. IsVerdict os v) (sym (split s i h at)) (verdict_rest (shell_obligations s (i, h)) (from_shell s (i + 1)) v holds k))

pub rests_fails : (s : SolidData) (i : ℕ) (h : Shell) (y : Failing) → slice_get s.shells i ≡ Some h → FirstFalse (shell_obligations s (i, h)) y → Rests s i
    → FirstFalse (solid_obligations s) y
rests_fails s i h y at first rests =
    rests (Fails y) (subst (λ os. FirstFalse os y) (sym (split s i h at)) (FirstFalse-append_front (shell_obligations s (i, h)) (from_shell s (i + 1)) y first))

pub rests_all : (s : SolidData) (i : ℕ) → length s.shells ≤ i → Rests s i → AllHold (solid_obligations s)
rests_all s i past rests = rests Closed (subst (λ hs. AllHold (of_each (shell_obligations s) (enumerate_from i hs))) (sym (drop_all i s.shells past)) tt)
