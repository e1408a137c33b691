-- The rules on a shell, in order.
use Rattle.std.specs.Prelude.{◌≡◌, ℕ, List, ◌++◌, Some, slice_get}
use Rattle.std.proofs.Common.{◌∙◌, ap, subst}
use Rattle.solid_data.specs.SolidData.{SolidData}
use Rattle.solid_data.specs.Obligations.{Obligation, AllHold, FirstFalse}
use Rattle.solid_data.specs.declared.solid.Shell.{Shell}
use Rattle.solid_data.specs.declared.verdict.Failing.{Failing}
use Rattle.solid_data.proofs.ObligationLemmas.{AllHold-append, FirstFalse-append_front, FirstFalse-append_rest}
use Rattle.edge_uses.specs.ShellRows.{ShellRows, rows_of, shell_rows}
use Rattle.edge_uses.specs.Joins.{join_obligations}
use Rattle.shell_rules.specs.ShellObligations.{pair_obligations, reach_obligations, link_obligations, apart_obligations, shell_obligations}
use Rattle.shell_rules.specs.Faults.{IsCheckFault}
use Rattle.shell_rules.specs.declared.fault.CheckFault.{CheckFault}
use Rattle.shell_rules.specs.declared.fault.CheckFault.TheVariants.{Fails, NoMemory}

-- where each false one of some obligations is that of others, a fault of these is one of those
fault_of : (os ps : List Obligation) → ((x : Failing) → FirstFalse os x → FirstFalse ps x) → (e : CheckFault) → IsCheckFault os e → IsCheckFault ps e
fault_of os ps f (Fails x) h = f x h
fault_of os ps f NoMemory h = tt

-- the rows that were read are those of the shell
pub same_rows : (s : SolidData) (k : ℕ) (h : Shell) (d : ShellRows) → d ≡ rows_of s (slice_get s.shells k) → slice_get s.shells k ≡ Some h → d ≡ shell_rows s h
same_rows s k h d read at = read ∙ ap (rows_of s) at

module _ (s : SolidData) (k : ℕ) (h : Shell) (d : ShellRows) (is : d ≡ shell_rows s h) where
  pub joined_not : (x : Failing) → FirstFalse (join_obligations s h) x → FirstFalse (shell_obligations s (k, h)) x
  unfolding shell_obligations
  joined_not x bad =
      let e : ShellRows = shell_rows s h in
      FirstFalse-append_front (join_obligations s h ++ pair_obligations s e ++ reach_obligations h e ++ link_obligations s e) (apart_obligations s k e) x
      (FirstFalse-append_front (join_obligations s h ++ pair_obligations s e ++ reach_obligations h e) (link_obligations s e) x
      (FirstFalse-append_front (join_obligations s h ++ pair_obligations s e) (reach_obligations h e) x
      (FirstFalse-append_front (join_obligations s h) (pair_obligations s e) x bad)))

  pub paired_not : AllHold (join_obligations s h) → (e : CheckFault) → IsCheckFault (pair_obligations s d) e → IsCheckFault (shell_obligations s (k, h)) e
  unfolding shell_obligations
  paired_not joins e bad =
      let r : ShellRows = shell_rows s h in
      fault_of (pair_obligations s r) (shell_obligations s (k, h))
      (λ x b. FirstFalse-append_front (join_obligations s h ++ pair_obligations s r ++ reach_obligations h r ++ link_obligations s r) (apart_obligations s k r)
      x
      (FirstFalse-append_front (join_obligations s h ++ pair_obligations s r ++ reach_obligations h r) (link_obligations s r) x
      (FirstFalse-append_front (join_obligations s h ++ pair_obligations s r) (reach_obligations h r) x
      (FirstFalse-append_rest (join_obligations s h) (pair_obligations s r) x joins b))))
      e (subst (λ z. IsCheckFault (pair_obligations s z) e) is bad)

  pub reached_not : AllHold (join_obligations s h) → AllHold (pair_obligations s d) → (e : CheckFault) → IsCheckFault (reach_obligations h d) e
      → IsCheckFault (shell_obligations s (k, h)) e
  unfolding shell_obligations
  reached_not joins pairs e bad =
      let r : ShellRows = shell_rows s h in
      let front = AllHold-append (join_obligations s h) (pair_obligations s r) joins (subst (λ z. AllHold (pair_obligations s z)) is pairs) in
      fault_of (reach_obligations h r) (shell_obligations s (k, h))
      (λ x b. FirstFalse-append_front (join_obligations s h ++ pair_obligations s r ++ reach_obligations h r ++ link_obligations s r) (apart_obligations s k r)
      x
      (FirstFalse-append_front (join_obligations s h ++ pair_obligations s r ++ reach_obligations h r) (link_obligations s r) x
      (FirstFalse-append_rest (join_obligations s h ++ pair_obligations s r) (reach_obligations h r) x front b)))
      e (subst (λ z. IsCheckFault (reach_obligations h z) e) is bad)

  pub linked_not : AllHold (join_obligations s h) → AllHold (pair_obligations s d) → AllHold (reach_obligations h d) → (e : CheckFault)
      → IsCheckFault (link_obligations s d) e → IsCheckFault (shell_obligations s (k, h)) e
  unfolding shell_obligations
  linked_not joins pairs reach e bad =
      let r : ShellRows = shell_rows s h in
      let front = AllHold-append (join_obligations s h) (pair_obligations s r) joins (subst (λ z. AllHold (pair_obligations s z)) is pairs) in
      let more = AllHold-append (join_obligations s h ++ pair_obligations s r) (reach_obligations h r) front
      (subst (λ z. AllHold (reach_obligations h z)) is reach) in
      fault_of (link_obligations s r) (shell_obligations s (k, h))
      (λ x b. FirstFalse-append_front (join_obligations s h ++ pair_obligations s r ++ reach_obligations h r ++ link_obligations s r) (apart_obligations s k r)
      x
      (FirstFalse-append_rest (join_obligations s h ++ pair_obligations s r ++ reach_obligations h r) (link_obligations s r) x more b))
      e (subst (λ z. IsCheckFault (link_obligations s z) e) is bad)

  all_but_last : AllHold (join_obligations s h) → AllHold (pair_obligations s d) → AllHold (reach_obligations h d) → AllHold (link_obligations s d)
      → AllHold (join_obligations s h ++ pair_obligations s (shell_rows s h) ++ reach_obligations h (shell_rows s h) ++ link_obligations s (shell_rows s h))
  all_but_last joins pairs reach links =
      let r : ShellRows = shell_rows s h in
      AllHold-append (join_obligations s h ++ pair_obligations s r ++ reach_obligations h r) (link_obligations s r)
      (AllHold-append (join_obligations s h ++ pair_obligations s r) (reach_obligations h r)
      (AllHold-append (join_obligations s h) (pair_obligations s r) joins (subst (λ z. AllHold (pair_obligations s z)) is pairs))
      (subst (λ z. AllHold (reach_obligations h z)) is reach))
      (subst (λ z. AllHold (link_obligations s z)) is links)

  pub apart_not : AllHold (join_obligations s h) → AllHold (pair_obligations s d) → AllHold (reach_obligations h d) → AllHold (link_obligations s d)
      → (x : Failing) → FirstFalse (apart_obligations s k d) x → FirstFalse (shell_obligations s (k, h)) x
  unfolding shell_obligations
  apart_not joins pairs reach links x bad =
      let r : ShellRows = shell_rows s h in
      FirstFalse-append_rest (join_obligations s h ++ pair_obligations s r ++ reach_obligations h r ++ link_obligations s r) (apart_obligations s k r) x
      (all_but_last joins pairs reach links)
      (subst (λ z. FirstFalse (apart_obligations s k z) x) is bad)

  pub all_hold : AllHold (join_obligations s h) → AllHold (pair_obligations s d) → AllHold (reach_obligations h d) → AllHold (link_obligations s d)
      → AllHold (apart_obligations s k d) → AllHold (shell_obligations s (k, h))
  unfolding shell_obligations
  all_hold joins pairs reach links apart =
      let r : ShellRows = shell_rows s h in
      AllHold-append (join_obligations s h ++ pair_obligations s r ++ reach_obligations h r ++ link_obligations s r) (apart_obligations s k r)
      (all_but_last joins pairs reach links)
      (subst (λ z. AllHold (apart_obligations s k z)) is apart)
