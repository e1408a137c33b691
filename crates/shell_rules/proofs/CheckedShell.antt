-- What is checked of a shell beside the lines of its certificate.
use Rattle.std.specs.Prelude.{◌≡◌, ℕ, List, [], ◌∷◌, Some, length, slice_get}
use Rattle.std.specs.List.{AllByRecursion}
use Rattle.std.proofs.Common.{arith, refl, subst}
use Rattle.solid_data.specs.SolidData.{SolidData}
use Rattle.solid_data.specs.Obligations.{AllHold, FirstFalse}
use Rattle.solid_data.specs.declared.solid.Shell.{Shell}
use Rattle.solid_data.specs.declared.verdict.Failing.{Failing}
use Rattle.solid_data.proofs.ObligationLemmas.{AllHold-append, FirstFalse-append_front, FirstFalse-append_rest}
use Rattle.edge_uses.specs.ShellRows.{ShellRows, shell_rows}
use Rattle.edge_uses.specs.Before.{IsApart}
use Rattle.edge_uses.specs.Joins.{join_obligations}
use Rattle.shell_rules.specs.ShellObligations.{apart_obligations, checked_of_shell, checked_obligations}
use Rattle.shell_rules.specs.declared.fault.CheckFault.TheVariants.{Fails}
use Rattle.shell_rules.proofs.Rules.{apart_holds}
use Rattle.shell_rules.proofs.Shells.{checked_from_first, one_shell, shell_fails, all_shells}

module _ (s : SolidData) (k : ℕ) (h : Shell) where
  pub open_fails : (x : Failing) → FirstFalse (join_obligations s h) x → FirstFalse (checked_of_shell s (k, h)) x
  open_fails x bad = FirstFalse-append_front (join_obligations s h) (apart_obligations s k (shell_rows s h)) x bad

  pub shared_fails : (d : ShellRows) (x : Failing) → d ≡ shell_rows s h → AllHold (join_obligations s h) → FirstFalse (apart_obligations s k d) x
      → FirstFalse (checked_of_shell s (k, h)) x
  shared_fails d x same joined bad = FirstFalse-append_rest (join_obligations s h) (apart_obligations s k (shell_rows s h)) x joined
      (subst (λ r. FirstFalse (apart_obligations s k r) x) same bad)

  pub both_hold : (d : ShellRows) → d ≡ shell_rows s h → AllHold (join_obligations s h) → AllHold (apart_obligations s k d)
      → AllHold (checked_of_shell s (k, h))
  both_hold d same joined apart = AllHold-append (join_obligations s h) (apart_obligations s k (shell_rows s h)) joined
      (subst (λ r. AllHold (apart_obligations s k r)) same apart)

-- No shell stands before the first.
none_before : (s : SolidData) (vs : List ℕ) → AllByRecursion (IsApart s 0) vs
none_before s [] = tt
none_before s (v ∷ vs) = (λ (k, lt, is). omega (arith, lt), none_before s vs)

-- the only shell of a solid
module _ (s : SolidData) (h : Shell) (at : slice_get s.shells 0 ≡ Some h) where
  pub only_shell_holds : length s.shells ≡ 1 → AllHold (join_obligations s h) → AllHold (checked_obligations s)
  only_shell_holds one joined =
      let holds = both_hold s 0 h (shell_rows s h) refl joined (apart_holds s 0 (shell_rows s h) (none_before s (shell_rows s h).vertices)) in
      all_shells (checked_of_shell s) (checked_obligations s) s.shells 1 (omega (arith, one))
      (one_shell (checked_of_shell s) (checked_obligations s) s.shells 0 h at (checked_from_first s) holds)

  pub only_shell_fails : (x : Failing) → FirstFalse (join_obligations s h) x → FirstFalse (checked_obligations s) x
  only_shell_fails x bad = shell_fails (checked_of_shell s) (checked_obligations s) s.shells 0 h (Fails x) at (checked_from_first s) (open_fails s 0 h x bad)
