-- Whether each rule holds on an open shell, and what it names where it fails.
use Rattle.std.specs.Prelude.{◌≡◌, ℕ, suc, ◌+◌, ◌++◌, List, [], ◌∷◌, length, map, Contains, Option, Some, slice_get, IfSome}
use Rattle.std.specs.List.{AllByRecursion, enumerate_from}
use Rattle.std.proofs.Common.{refl, sym, ◌∙◌, ap, subst, arith, inl, inr, ⊎_elim}
use Rattle.solid_data.specs.Ring.{numbers_from}
use Rattle.solid_data.specs.SolidData.{SolidData, PlacedLoop, placed_loops}
use Rattle.solid_data.specs.Obligations.{Obligation, obligation, AllHold as AllHoldClosed, FirstFalse as FirstFalseClosed, FirstNot, of_each}
use Rattle.solid_data.specs.declared.solid.FaceUse.{FaceUse}
use Rattle.solid_data.specs.declared.solid.LoopAt.{LoopAt}
use Rattle.solid_data.specs.declared.solid.Shell.{Shell}
use Rattle.solid_data.specs.declared.verdict.Failing.{Failing}
use Rattle.solid_data.specs.declared.verdict.Rule.{Rule}
use Rattle.solid_data.specs.declared.verdict.Rule.TheVariants.{Unjoined, Unreached}
use Rattle.solid_data.proofs.Members.{Has, Contains-from_Has}
use Rattle.solid_data.proofs.ObligationLemmas.{FirstFalse-append_front, FirstFalse-append_rest}
use Rattle.edge_uses.specs.ShellRows.{ShellRows, shell_rows}
use Rattle.edge_uses.specs.Joins.{IsJoined, loop_obligations, IsFirstUnjoined, join_obligations}
use Rattle.edge_uses.specs.Around.{IsReached}
use Rattle.shell_rules.specs.ShellObligations.{reach_obligations}
use Rattle.edge_uses.proofs.JoinLemmas.{hold_from_joined}
use Rattle.open_certificate.specs.Sound.{IsOnce, IsFanned}
use Rattle.open_certificate.specs.Obligations.{OpenObligation, AllHold, FirstFalse, open_failing, as_open, edge_obligation, fan_obligation}
use Rattle.open_certificate.specs.Obligations.{open_shell_obligations}
use Rattle.open_shells.specs.Certified.{IsOpenFault}
use Rattle.open_shells.specs.declared.fault.OpenFault.{OpenFault}
use Rattle.open_shells.specs.declared.fault.OpenFault.TheVariants.{Fails, NoMemory}
use Rattle.open_certificate.specs.declared.verdict.OpenFailing.{OpenFailing}
use Rattle.open_certificate.specs.declared.verdict.OpenRule.TheVariants.{Join, Reach}
use Rattle.open_certificate.proofs.OpenLists.{hold_append, false_front, false_rest, hold_map, first_map, as_open_hold, as_open_false}
use Rattle.open_shells.proofs.Placed.{IsPlace}
use Rattle.shell_rules.proofs.Rules.{FirstNot-has, face_there, unreached_there}

abbrev pub failing : Rule → ℕ → ℕ → Failing
failing rule entity place = record { rule = rule; entity = record { 0 = entity }; place = place }

of_each_fails : {A : Type 0} (P : A → Type 0) (f : A → List Obligation) → ((y : A) → P y → AllHoldClosed (f y)) → (xs : List A) (y : A) (x : Failing)
    → FirstNot P xs y → FirstFalseClosed (f y) x → FirstFalseClosed (of_each f xs) x
of_each_fails P f holds [] y x h bad = absurd h
of_each_fails P f holds (z ∷ xs) y x h bad =
    ⊎_elim (λ here. FirstFalse-append_front (f z) (of_each f xs) x (subst (λ w. FirstFalseClosed (f w) x) here.1 bad))
    (λ rest. FirstFalse-append_rest (f z) (of_each f xs) x (holds z rest.0) (of_each_fails P f holds xs y x rest.1 bad)) h

-- the open loop stands in the shell
open_place : (s : SolidData) (h : Shell) (at : LoopAt) (place : ℕ) → IsFirstUnjoined s h at place → IsPlace h at
open_place s h at place u =
    (u.placed, Contains-from_Has (placed_loops h) u.placed (FirstNot-has (λ (p : PlacedLoop). IsJoined s p.loop) (placed_loops h) u.placed u.first), u.is_at)

joins_fail : (s : SolidData) (h : Shell) (at : LoopAt) (place : ℕ) (x : Failing) → IsFirstUnjoined s h at place
    → ((p : PlacedLoop) → Contains (placed_loops h) p → at ≡ p.at → x ≡ failing Unjoined p.loop.entity.0 place) → FirstFalseClosed (join_obligations s h) x
unfolding open_place
joins_fail s h at place x u named =
    let there = open_place s h at place u in
    of_each_fails (λ (p : PlacedLoop). IsJoined s p.loop) (λ (p : PlacedLoop). loop_obligations s p.loop) (λ p. hold_from_joined s p.loop) (placed_loops h)
    u.placed x u.first
    (subst (FirstFalseClosed (loop_obligations s u.placed.loop)) (sym (named u.placed there.1 u.is_at)) u.is_place)

faces_hold : (d : ShellRows) (base : ℕ) (fs : List FaceUse) → AllByRecursion (IsReached d) (numbers_from base (length fs))
    → AllHoldClosed (map (λ (f : ℕ × FaceUse). obligation Unreached f.1.entity.0 0 (IsReached d f.0)) (enumerate_from base fs))
faces_hold d base [] h = tt
faces_hold d base (f ∷ fs) h = (h.0, faces_hold d (base + 1) fs h.1)

reaches_hold : (h : Shell) (d : ShellRows) → d.face_count ≡ length h.faces → AllByRecursion (IsReached d) (numbers_from 0 d.face_count)
    → AllHoldClosed (reach_obligations h d)
reaches_hold h d count all = faces_hold d 0 h.faces (subst (λ n. AllByRecursion (IsReached d) (numbers_from 0 n)) count all)

faces_fail : (d : ShellRows) (base : ℕ) (fs : List FaceUse) (f : ℕ) (x : Failing) → FirstNot (IsReached d) (numbers_from base (length fs)) f
    → ((g : FaceUse) (i : ℕ) → f ≡ base + i → slice_get fs i ≡ Some g → x ≡ failing Unreached g.entity.0 0)
    → FirstFalseClosed (map (λ (f : ℕ × FaceUse). obligation Unreached f.1.entity.0 0 (IsReached d f.0)) (enumerate_from base fs)) x
faces_fail d base [] f x h named = absurd h
faces_fail d base (g ∷ fs) f x h named =
    ⊎_elim (λ here. let e : base ≡ base + 0 = omega arith in inl (here.0, named g 0 (here.1 ∙ e) refl))
    (λ rest. inr (
      rest.0,
      faces_fail d (base + 1) fs f x rest.1
          (λ y i e at. let same : base + 1 + i ≡ base + suc i = omega arith in named y (suc i) (e ∙ same) at),
    )) h

reaches_fail : (h : Shell) (d : ShellRows) (f : ℕ) (x : Failing) → d.face_count ≡ length h.faces → FirstNot (IsReached d) (numbers_from 0 d.face_count) f
    → ((g : FaceUse) → slice_get h.faces f ≡ Some g → x ≡ failing Unreached g.entity.0 0) → FirstFalseClosed (reach_obligations h d) x
reaches_fail h d f x count bad named =
    faces_fail d 0 h.faces f x (subst (λ n. FirstNot (IsReached d) (numbers_from 0 n) f) count bad)
    (λ g i e at. let same : i ≡ f = omega (arith, e) in named g (subst (λ n. slice_get h.faces n ≡ Some g) same at))

pub if_some : {A : Type 0} (P : A → Type 0) (o : Option A) (x : A) → o ≡ Some x → IfSome o P → P x
if_some {A = A} P o x e h = let Q : Option A → Type 0 = λ z. IfSome z P in subst Q e h

-- By the names of the open rules.

pub join_fails : (s : SolidData) (h : Shell) (at : LoopAt) (place : ℕ) (x : OpenFailing) → IsFirstUnjoined s h at place
    → ((p : PlacedLoop) → Contains (placed_loops h) p → at ≡ p.at → x ≡ open_failing Join p.loop.entity place)
    → FirstFalse (map (as_open Join) (join_obligations s h)) x
unfolding open_place
join_fails s h at place x u named =
    let there = open_place s h at place u in
    let bad = joins_fail s h at place (failing Unjoined u.placed.loop.entity.0 place) u
    (λ p c same. let a = named p c same in let b = named u.placed there.1 u.is_at in
    let e : open_failing Join p.loop.entity place ≡ open_failing Join u.placed.loop.entity place = sym a ∙ b in
    ap (λ (z : OpenFailing). failing Unjoined z.entity.0 place) (sym e)) in
    subst (FirstFalse (map (as_open Join) (join_obligations s h))) (sym (named u.placed there.1 u.is_at))
    (as_open_false Join (join_obligations s h) (failing Unjoined u.placed.loop.entity.0 place) bad)

pub join_holds : (s : SolidData) (h : Shell) → AllHoldClosed (join_obligations s h) → AllHold (map (as_open Join) (join_obligations s h))
join_holds s h all = as_open_hold Join (join_obligations s h) all

pub edge_holds : (s : SolidData) (d : ShellRows) → AllByRecursion (IsOnce d) d.edges → AllHold (map (edge_obligation s d) d.edges)
edge_holds s d h = hold_map (edge_obligation s d) d.edges h

pub edge_fails : (s : SolidData) (d : ShellRows) (e : ℕ) (x : OpenFailing) → FirstNot (IsOnce d) d.edges e → x ≡ (edge_obligation s d e).failing
    → FirstFalse (map (edge_obligation s d) d.edges) x
edge_fails s d e x h named = subst (FirstFalse (map (edge_obligation s d) d.edges)) (sym named) (first_map (edge_obligation s d) d.edges e h)

pub fan_holds : (s : SolidData) (d : ShellRows) → AllByRecursion (IsFanned d) d.vertices → AllHold (map (fan_obligation s d) d.vertices)
fan_holds s d h = hold_map (fan_obligation s d) d.vertices h

pub fan_fails : (s : SolidData) (d : ShellRows) (v : ℕ) (x : OpenFailing) → FirstNot (IsFanned d) d.vertices v → x ≡ (fan_obligation s d v).failing
    → FirstFalse (map (fan_obligation s d) d.vertices) x
fan_fails s d v x h named = subst (FirstFalse (map (fan_obligation s d) d.vertices)) (sym named) (first_map (fan_obligation s d) d.vertices v h)

pub reach_holds : (h : Shell) (d : ShellRows) → d.face_count ≡ length h.faces → AllByRecursion (IsReached d) (numbers_from 0 d.face_count)
    → AllHold (map (as_open Reach) (reach_obligations h d))
reach_holds h d count all = as_open_hold Reach (reach_obligations h d) (reaches_hold h d count all)

pub reach_fails : (h : Shell) (d : ShellRows) (f : ℕ) (x : OpenFailing) → d.face_count ≡ length h.faces
    → FirstNot (IsReached d) (numbers_from 0 d.face_count) f → ((g : FaceUse) → slice_get h.faces f ≡ Some g → x ≡ open_failing Reach g.entity 0)
    → FirstFalse (map (as_open Reach) (reach_obligations h d)) x
reach_fails h d f x count bad named =
    let there = unreached_there h d f count bad in
    let first = reaches_fail h d f (failing Unreached there.0.entity.0 0) count bad (λ g at.
    let e : open_failing Reach g.entity 0 ≡ open_failing Reach there.0.entity 0 = sym (named g at) ∙ named there.0 there.1 in
    ap (λ (z : OpenFailing). failing Unreached z.entity.0 0) (sym e)) in
    subst (FirstFalse (map (as_open Reach) (reach_obligations h d))) (sym (named there.0 there.1))
    (as_open_false Reach (reach_obligations h d) (failing Unreached there.0.entity.0 0) first)

-- The rules in order.

fault_of : (os ps : List OpenObligation) → ((x : OpenFailing) → FirstFalse os x → FirstFalse ps x) → (e : OpenFault) → IsOpenFault os e → IsOpenFault ps e
fault_of os ps f (Fails x) h = f x h
fault_of os ps f NoMemory h = tt

module _ (s : SolidData) (h : Shell) (d : ShellRows) (is : d ≡ shell_rows s h) where
  pub joined_not : (x : OpenFailing) → FirstFalse (map (as_open Join) (join_obligations s h)) x → FirstFalse (open_shell_obligations s h) x
  unfolding open_shell_obligations
  joined_not x bad =
      let r : ShellRows = shell_rows s h in
      false_front (map (as_open Join) (join_obligations s h) ++ map (edge_obligation s r) r.edges ++ map (as_open Reach) (reach_obligations h r))
      (map (fan_obligation s r) r.vertices) x
      (false_front (map (as_open Join) (join_obligations s h) ++ map (edge_obligation s r) r.edges) (map (as_open Reach) (reach_obligations h r)) x
      (false_front (map (as_open Join) (join_obligations s h)) (map (edge_obligation s r) r.edges) x bad))

  pub once_not : AllHold (map (as_open Join) (join_obligations s h)) → (e : OpenFault) → IsOpenFault (map (edge_obligation s d) d.edges) e
      → IsOpenFault (open_shell_obligations s h) e
  unfolding open_shell_obligations
  once_not joins e bad =
      let r : ShellRows = shell_rows s h in
      fault_of (map (edge_obligation s r) r.edges) (open_shell_obligations s h)
      (λ x b. false_front (map (as_open Join) (join_obligations s h) ++ map (edge_obligation s r) r.edges ++ map (as_open Reach) (reach_obligations h r))
      (map (fan_obligation s r) r.vertices) x
      (false_front (map (as_open Join) (join_obligations s h) ++ map (edge_obligation s r) r.edges) (map (as_open Reach) (reach_obligations h r)) x
      (false_rest (map (as_open Join) (join_obligations s h)) (map (edge_obligation s r) r.edges) x joins b)))
      e (subst (λ z. IsOpenFault (map (edge_obligation s z) z.edges) e) is bad)

  pub reached_not : AllHold (map (as_open Join) (join_obligations s h)) → AllHold (map (edge_obligation s d) d.edges) → (e : OpenFault)
      → IsOpenFault (map (as_open Reach) (reach_obligations h d)) e → IsOpenFault (open_shell_obligations s h) e
  unfolding open_shell_obligations
  reached_not joins edges e bad =
      let r : ShellRows = shell_rows s h in
      let front = hold_append (map (as_open Join) (join_obligations s h)) (map (edge_obligation s r) r.edges) joins
      (subst (λ z. AllHold (map (edge_obligation s z) z.edges)) is edges) in
      fault_of (map (as_open Reach) (reach_obligations h r)) (open_shell_obligations s h)
      (λ x b. false_front (map (as_open Join) (join_obligations s h) ++ map (edge_obligation s r) r.edges ++ map (as_open Reach) (reach_obligations h r))
      (map (fan_obligation s r) r.vertices) x
      (false_rest (map (as_open Join) (join_obligations s h) ++ map (edge_obligation s r) r.edges) (map (as_open Reach) (reach_obligations h r)) x front b))
      e (subst (λ z. IsOpenFault (map (as_open Reach) (reach_obligations h z)) e) is bad)

  pub fanned_not : AllHold (map (as_open Join) (join_obligations s h)) → AllHold (map (edge_obligation s d) d.edges)
      → AllHold (map (as_open Reach) (reach_obligations h d)) → (e : OpenFault) → IsOpenFault (map (fan_obligation s d) d.vertices) e
      → IsOpenFault (open_shell_obligations s h) e
  unfolding open_shell_obligations
  fanned_not joins edges reach e bad =
      let r : ShellRows = shell_rows s h in
      let front = hold_append (map (as_open Join) (join_obligations s h)) (map (edge_obligation s r) r.edges) joins
      (subst (λ z. AllHold (map (edge_obligation s z) z.edges)) is edges) in
      let more = hold_append (map (as_open Join) (join_obligations s h) ++ map (edge_obligation s r) r.edges) (map (as_open Reach) (reach_obligations h r))
      front (subst (λ z. AllHold (map (as_open Reach) (reach_obligations h z))) is reach) in
      fault_of (map (fan_obligation s r) r.vertices) (open_shell_obligations s h)
      (λ x b. false_rest (map (as_open Join) (join_obligations s h) ++ map (edge_obligation s r) r.edges ++ map (as_open Reach) (reach_obligations h r))
      (map (fan_obligation s r) r.vertices) x more b)
      e (subst (λ z. IsOpenFault (map (fan_obligation s z) z.vertices) e) is bad)

  pub all_hold : AllHold (map (as_open Join) (join_obligations s h)) → AllHold (map (edge_obligation s d) d.edges)
      → AllHold (map (as_open Reach) (reach_obligations h d)) → AllHold (map (fan_obligation s d) d.vertices) → AllHold (open_shell_obligations s h)
  unfolding open_shell_obligations
  all_hold joins edges reach fans =
      let r : ShellRows = shell_rows s h in
      let front = hold_append (map (as_open Join) (join_obligations s h)) (map (edge_obligation s r) r.edges) joins
      (subst (λ z. AllHold (map (edge_obligation s z) z.edges)) is edges) in
      let more = hold_append (map (as_open Join) (join_obligations s h) ++ map (edge_obligation s r) r.edges) (map (as_open Reach) (reach_obligations h r))
      front (subst (λ z. AllHold (map (as_open Reach) (reach_obligations h z))) is reach) in
      hold_append (map (as_open Join) (join_obligations s h) ++ map (edge_obligation s r) r.edges ++ map (as_open Reach) (reach_obligations h r))
      (map (fan_obligation s r) r.vertices) more (subst (λ z. AllHold (map (fan_obligation s z) z.vertices)) is fans)
