-- Shell after shell.
use Rattle.std.specs.Prelude.{◌≡◌, ℕ, ◌+◌, ◌≤◌, List, ◌++◌, length, Some, slice_get, Err}
use Rattle.std.specs.List.{enumerate_from}
use Rattle.std.proofs.Common.{sym, subst, drop}
use Rattle.std.proofs.lemmas.List.{drop_all}
use Rattle.solid_data.specs.SolidData.{SolidData}
use Rattle.solid_data.specs.Obligations.{Obligation, AllHold, FirstFalse, of_each}
use Rattle.solid_data.specs.declared.solid.Shell.{Shell}
use Rattle.solid_data.specs.declared.verdict.Failing.{Failing}
use Rattle.solid_data.proofs.ObligationLemmas.{Remains, Remains-all, Remains-less, Remains-fails, FirstFalse-not_all, FirstFalse-one}
use Rattle.solid_data.proofs.Members.{split_at}
use Rattle.shell_rules.specs.ShellObligations.{shell_obligations, solid_obligations, checked_of_shell, checked_obligations}
use Rattle.shell_rules.specs.Faults.{IsCheckFault, IsNoMemory, FailsSo}
use Rattle.shell_rules.specs.declared.fault.CheckFault.{CheckFault}
use Rattle.shell_rules.specs.declared.fault.CheckFault.TheVariants.{Fails, NoMemory}

-- the obligations on the shells from the k-th on
abbrev pub left_from : (ℕ × Shell → List Obligation) → List Shell → ℕ → List Obligation
left_from g hs k = of_each g (enumerate_from k (drop k hs))

-- what is shown of those is shown of all
abbrev pub RemainFrom : (ℕ × Shell → List Obligation) → List Obligation → List Shell → ℕ → Type 0
RemainFrom g all hs k = Remains (left_from g hs k) all

pub from_first : (s : SolidData) → RemainFrom (shell_obligations s) (solid_obligations s) s.shells 0
unfolding solid_obligations
from_first s = Remains-all (left_from (shell_obligations s) s.shells 0)

pub checked_from_first : (s : SolidData) → RemainFrom (checked_of_shell s) (checked_obligations s) s.shells 0
unfolding checked_obligations
checked_from_first s = Remains-all (left_from (checked_of_shell s) s.shells 0)

module _ (g : ℕ × Shell → List Obligation) (all : List Obligation) (hs : List Shell) (k : ℕ) where
  split : (h : Shell) → slice_get hs k ≡ Some h → RemainFrom g all hs k → Remains (g (k, h) ++ left_from g hs (k + 1)) all
  split h at r = subst (λ xs. Remains (of_each g (enumerate_from k xs)) all) (split_at hs k h at) r

  pub one_shell : (h : Shell) → slice_get hs k ≡ Some h → RemainFrom g all hs k → AllHold (g (k, h)) → RemainFrom g all hs (k + 1)
  one_shell h at r holds = Remains-less (g (k, h)) (left_from g hs (k + 1)) all (split h at r) holds

  pub shell_fails : (h : Shell) (e : CheckFault) → slice_get hs k ≡ Some h → RemainFrom g all hs k → IsCheckFault (g (k, h)) e → IsCheckFault all e
  shell_fails h (Fails x) at r bad = Remains-fails (g (k, h)) (left_from g hs (k + 1)) all x (split h at r) bad
  shell_fails h NoMemory at r bad = tt

  pub all_shells : length hs ≤ k → RemainFrom g all hs k → AllHold all
  all_shells past r = r.holds (subst (λ xs. AllHold (of_each g (enumerate_from k xs))) (sym (drop_all k hs past)) tt)

-- A fault where all holds is want of memory.
pub only_memory : (os : List Obligation) (e : CheckFault) → IsCheckFault os e → AllHold os → IsNoMemory e
only_memory os (Fails x) bad all = FirstFalse-not_all os x bad all
only_memory os NoMemory bad all = tt

pub only_so : (A : Type 0) (os : List Obligation) (e : CheckFault) (x : Failing) → IsCheckFault os e → FirstFalse os x → FailsSo {A = A} x (Err e)
only_so A os (Fails y) x bad first = FirstFalse-one os y x bad first
only_so A os NoMemory x bad first = tt

pub never : (os : List Obligation) (x : Failing) → AllHold os → FirstFalse os x → ⊥
never os x all first = FirstFalse-not_all os x first all
