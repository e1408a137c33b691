-- Whether each rule holds on a shell, and what it names where it fails.
use Rattle.std.specs.Prelude.{◌≡◌, ℕ, suc, ◌+◌, List, [], ◌∷◌, length, map, Contains, Option, Some, slice_get, IfSome}
use Rattle.std.specs.List.{AllByRecursion, enumerate_from}
use Rattle.std.proofs.Common.{refl, sym, ◌∙◌, subst, arith, inl, inr, ⊎_elim}
use Rattle.solid_data.specs.Ring.{numbers_from}
use Rattle.solid_data.specs.SolidData.{SolidData, PlacedLoop, placed_loops, edge_name, vertex_name}
use Rattle.solid_data.specs.Obligations.{Obligation, obligation, AllHold, FirstFalse, FirstNot, of_each}
use Rattle.solid_data.specs.declared.solid.FaceUse.{FaceUse}
use Rattle.solid_data.specs.declared.solid.LoopAt.{LoopAt}
use Rattle.solid_data.specs.declared.solid.Shell.{Shell}
use Rattle.solid_data.specs.declared.verdict.Failing.{Failing}
use Rattle.solid_data.specs.declared.verdict.Rule.TheVariants.{Unjoined, Unpaired, Unreached, Unlinked, Shared}
use Rattle.solid_data.proofs.Members.{Has, Contains-from_Has}
use Rattle.solid_data.proofs.ObligationLemmas.{FirstFalse-append_front, FirstFalse-append_rest, FirstNot-map, map-AllHold}
use Rattle.edge_uses.specs.ShellRows.{ShellRows}
use Rattle.edge_uses.specs.Before.{IsApart}
use Rattle.edge_uses.specs.Joins.{IsJoined, loop_obligations, IsFirstUnjoined, join_obligations}
use Rattle.edge_uses.specs.RowRelations.{IsPaired}
use Rattle.edge_uses.specs.Around.{IsReached, IsLinked}
use Rattle.shell_rules.specs.ShellObligations.{pair_obligations, reach_obligations, link_obligations, apart_obligations, at_edge, at_vertex}
use Rattle.edge_uses.proofs.JoinLemmas.{hold_from_joined}
use Rattle.shell_rules.specs.Naming.{failing}
use Rattle.shell_rules.proofs.Placed.{IsPlace}

pub FirstNot-has : {A : Type 0} (P : A → Type 0) (xs : List A) (x : A) → FirstNot P xs x → Has xs x
FirstNot-has P [] x h = h
FirstNot-has P (y ∷ xs) x h = ⊎_elim (λ bad. inl (sym bad.1)) (λ rest. inr (FirstNot-has P xs x rest.1)) h

of_each_fails : {A : Type 0} (P : A → Type 0) (f : A → List Obligation) → ((y : A) → P y → AllHold (f y)) → (xs : List A) (y : A) (x : Failing)
    → FirstNot P xs y → FirstFalse (f y) x → FirstFalse (of_each f xs) x
of_each_fails P f holds [] y x h bad = absurd h
of_each_fails P f holds (z ∷ xs) y x h bad =
    ⊎_elim (λ here. FirstFalse-append_front (f z) (of_each f xs) x (subst (λ w. FirstFalse (f w) x) here.1 bad))
    (λ rest. FirstFalse-append_rest (f z) (of_each f xs) x (holds z rest.0) (of_each_fails P f holds xs y x rest.1 bad)) h

-- the open loop stands in the shell
pub open_place : (s : SolidData) (h : Shell) (at : LoopAt) (place : ℕ) → IsFirstUnjoined s h at place → IsPlace h at
open_place s h at place u =
    (u.placed, Contains-from_Has (placed_loops h) u.placed (FirstNot-has (λ (p : PlacedLoop). IsJoined s p.loop) (placed_loops h) u.placed u.first), u.is_at)

pub join_fails : (s : SolidData) (h : Shell) (at : LoopAt) (place : ℕ) (x : Failing) → IsFirstUnjoined s h at place
    → ((p : PlacedLoop) → Contains (placed_loops h) p → at ≡ p.at → x ≡ failing Unjoined p.loop.entity.0 place) → FirstFalse (join_obligations s h) x
unfolding open_place
join_fails s h at place x u named =
    let there = open_place s h at place u in
    of_each_fails (λ (p : PlacedLoop). IsJoined s p.loop) (λ (p : PlacedLoop). loop_obligations s p.loop) (λ p. hold_from_joined s p.loop) (placed_loops h)
    u.placed x u.first
    (subst (FirstFalse (loop_obligations s u.placed.loop)) (sym (named u.placed there.1 u.is_at)) u.is_place)

pub pair_holds : (s : SolidData) (d : ShellRows) → AllByRecursion (IsPaired d) d.edges → AllHold (pair_obligations s d)
pair_holds s d h = map-AllHold (λ e. at_edge Unpaired (edge_name (slice_get s.edges e)) (IsPaired d e)) d.edges h

pub pair_fails : (s : SolidData) (d : ShellRows) (e : ℕ) (x : Failing) → FirstNot (IsPaired d) d.edges e
    → x ≡ (let key = edge_name (slice_get s.edges e) in failing Unpaired key.list.0 key.index) → FirstFalse (pair_obligations s d) x
pair_fails s d e x h named =
    subst (FirstFalse (pair_obligations s d)) (sym named) (FirstNot-map (λ e. at_edge Unpaired (edge_name (slice_get s.edges e)) (IsPaired d e)) d.edges e h)

pub link_holds : (s : SolidData) (d : ShellRows) → AllByRecursion (IsLinked d) d.vertices → AllHold (link_obligations s d)
link_holds s d h = map-AllHold (λ v. at_vertex Unlinked (vertex_name (slice_get s.vertices v)) (IsLinked d v)) d.vertices h

pub link_fails : (s : SolidData) (d : ShellRows) (v : ℕ) (x : Failing) → FirstNot (IsLinked d) d.vertices v
    → x ≡ (let key = vertex_name (slice_get s.vertices v) in failing Unlinked key.list.0 key.index) → FirstFalse (link_obligations s d) x
link_fails s d v x h named =
    subst (FirstFalse (link_obligations s d)) (sym named)
    (FirstNot-map (λ v. at_vertex Unlinked (vertex_name (slice_get s.vertices v)) (IsLinked d v)) d.vertices v h)

pub apart_holds : (s : SolidData) (k : ℕ) (d : ShellRows) → AllByRecursion (IsApart s k) d.vertices → AllHold (apart_obligations s k d)
apart_holds s k d h = map-AllHold (λ v. at_vertex Shared (vertex_name (slice_get s.vertices v)) (IsApart s k v)) d.vertices h

pub apart_fails : (s : SolidData) (k : ℕ) (d : ShellRows) (v : ℕ) (x : Failing) → FirstNot (IsApart s k) d.vertices v
    → x ≡ (let key = vertex_name (slice_get s.vertices v) in failing Shared key.list.0 key.index) → FirstFalse (apart_obligations s k d) x
apart_fails s k d v x h named =
    subst (FirstFalse (apart_obligations s k d)) (sym named)
    (FirstNot-map (λ v. at_vertex Shared (vertex_name (slice_get s.vertices v)) (IsApart s k v)) d.vertices v h)

faces_hold : (d : ShellRows) (base : ℕ) (fs : List FaceUse) → AllByRecursion (IsReached d) (numbers_from base (length fs))
    → AllHold (map (λ (f : ℕ × FaceUse). obligation Unreached f.1.entity.0 0 (IsReached d f.0)) (enumerate_from base fs))
faces_hold d base [] h = tt
faces_hold d base (f ∷ fs) h = (h.0, faces_hold d (base + 1) fs h.1)

pub reach_holds : (h : Shell) (d : ShellRows) → d.face_count ≡ length h.faces → AllByRecursion (IsReached d) (numbers_from 0 d.face_count)
    → AllHold (reach_obligations h d)
reach_holds h d count all = faces_hold d 0 h.faces (subst (λ n. AllByRecursion (IsReached d) (numbers_from 0 n)) count all)

faces_fail : (d : ShellRows) (base : ℕ) (fs : List FaceUse) (f : ℕ) (x : Failing) → FirstNot (IsReached d) (numbers_from base (length fs)) f
    → ((g : FaceUse) (i : ℕ) → f ≡ base + i → slice_get fs i ≡ Some g → x ≡ failing Unreached g.entity.0 0)
    → FirstFalse (map (λ (f : ℕ × FaceUse). obligation Unreached f.1.entity.0 0 (IsReached d f.0)) (enumerate_from base fs)) x
faces_fail d base [] f x h named = absurd h
faces_fail d base (g ∷ fs) f x h named =
    ⊎_elim (λ here. let e : base ≡ base + 0 = omega arith in inl (here.0, named g 0 (here.1 ∙ e) refl))
    (λ rest. inr (
      rest.0,
      faces_fail d (base + 1) fs f x rest.1
          (λ y i e at. let same : base + 1 + i ≡ base + suc i = omega arith in named y (suc i) (e ∙ same) at),
    )) h

pub reach_fails : (h : Shell) (d : ShellRows) (f : ℕ) (x : Failing) → d.face_count ≡ length h.faces → FirstNot (IsReached d) (numbers_from 0 d.face_count) f
    → ((g : FaceUse) → slice_get h.faces f ≡ Some g → x ≡ failing Unreached g.entity.0 0) → FirstFalse (reach_obligations h d) x
reach_fails h d f x count bad named =
    faces_fail d 0 h.faces f x (subst (λ n. FirstNot (IsReached d) (numbers_from 0 n) f) count bad)
    (λ g i e at. let same : i ≡ f = omega (arith, e) in named g (subst (λ n. slice_get h.faces n ≡ Some g) same at))

pub face_there : (P : ℕ → Type 0) (base : ℕ) (fs : List FaceUse) (f : ℕ) → FirstNot P (numbers_from base (length fs)) f → (i : ℕ) × (f ≡ base + i) × (g : FaceUse)
    × (slice_get fs i ≡ Some g)
face_there P base [] f h = absurd h
face_there P base (g ∷ fs) f h =
    ⊎_elim (λ here. (0, omega (arith, here.1), g, refl)) (λ rest. let k = face_there P (base + 1) fs f rest.1 in (suc k.0, omega (arith, k.1), k.2, k.3)) h

-- the unreached face is one of the shell
pub unreached_there : (h : Shell) (d : ShellRows) (f : ℕ) → d.face_count ≡ length h.faces → FirstNot (IsReached d) (numbers_from 0 d.face_count) f
    → (g : FaceUse) × (slice_get h.faces f ≡ Some g)
unreached_there h d f count bad =
    let k = face_there (IsReached d) 0 h.faces f (subst (λ n. FirstNot (IsReached d) (numbers_from 0 n) f) count bad) in
    let same : k.0 ≡ f = omega (arith, k.1) in
    (k.2, subst (λ n. slice_get h.faces n ≡ Some k.2) same k.3)

pub if_some : {A : Type 0} (P : A → Type 0) (o : Option A) (x : A) → o ≡ Some x → IfSome o P → P x
if_some {A = A} P o x e h = let Q : Option A → Type 0 = λ z. IfSome z P in subst Q e h
