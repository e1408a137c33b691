-- Each rule's list names exactly its failing obligations.
use Rattle.std.specs.Prelude.{◌≡◌, ◌==◌, ◌&&◌, ◌||◌, ℕ, Bool, true, false, List, [], ◌∷◌, ◌⊎◌, map, flat_map, take, slice_get, if◌then◌else◌, Contains}
use Rattle.std.specs.List.{list_any}
use Rattle.std.proofs.Common.{refl, sym, ◌∙◌, ap, subst, inl, inr, ⊎_elim}
use Rattle.std.proofs.lemmas.Bool.Decides.{eqb_tells}
use Rattle.std.proofs.lemmas.Bool.{eqb-true}
use Rattle.solid_data.specs.Ring.{next_of_each}
use Rattle.solid_data.specs.SolidData.{SolidData, PlacedLoop, placed_loops, shell_vertices, occurring, edge_name, vertex_name}
use Rattle.solid_data.specs.Obligations.{Obligation, obligation}
use Rattle.solid_data.specs.declared.solid.Shell.{Shell}
use Rattle.solid_data.specs.declared.verdict.Rule.TheVariants.{Unjoined, Unpaired as RuleUnpaired, Shared}
use Rattle.solid_data.proofs.Members.{Has, Has-from_Contains, Contains-from_Has}
use Rattle.solid_data.proofs.Occurring.{found}
use Rattle.edge_uses.specs.Before.{IsApart}
use Rattle.edge_uses.specs.Joins.{start_of, end_of, ends_and_starts, loop_obligations, join_obligations}
use Rattle.edge_uses.specs.RowRelations.{row_count, IsPaired}
use Rattle.edge_uses.specs.ShellRows.{ShellRows}
use Rattle.shell_rules.specs.ShellObligations.{pair_obligations, apart_obligations, at_edge, at_vertex}
use Rattle.solid_faults.specs.Failing.{AreFailing}
use Rattle.solid_faults.specs.Gaps.{gap_at, loop_gaps, gaps_of, gap_failing}
use Rattle.solid_faults.specs.Edges.{edge_unpaired, unpaired_of, unpaired_failing, shared_of, shared_failing}
use Rattle.solid_faults.proofs.FailingLemmas.{failing_of_each, failing_map, holds_too, fails_too}

-- JOIN

use_named : (p : PlacedLoop) (u : ℕ × ℕ × ℕ) → AreFailing (obligation Unjoined p.loop.entity.0 u.0 (u.1 ≡ u.2) ∷ []) (map gap_failing (gap_at p u))
use_named p u =
    let o : Obligation = obligation Unjoined p.loop.entity.0 u.0 (u.1 ≡ u.2) in
    ⊎_elim
    (λ same. subst (λ b. AreFailing (o ∷ []) (map gap_failing (if b then [] else record { at = p.at; entity = p.loop.entity; tuple = u.0 } ∷ []))) (sym same.0)
    (holds_too o [] [] same.1 refl))
    (λ other. subst (λ b. AreFailing (o ∷ []) (map gap_failing (if b then [] else record { at = p.at; entity = p.loop.entity; tuple = u.0 } ∷ [])))
    (sym other.0) (fails_too o [] o.failing [] other.1 refl refl))
    (eqb_tells u.1 u.2)

pub gaps_named : (s : SolidData) (shell : Shell) → AreFailing (join_obligations s shell) (map gap_failing (gaps_of s shell))
gaps_named s shell =
    failing_of_each (λ (p : PlacedLoop). loop_obligations s p.loop) (loop_gaps s) gap_failing (placed_loops shell)
    (λ p. failing_map (λ (u : ℕ × ℕ × ℕ). obligation Unjoined p.loop.entity.0 u.0 (u.1 ≡ u.2)) (gap_at p) gap_failing
    (ends_and_starts 1 (map (end_of s) p.loop.uses) (next_of_each (map (start_of s) p.loop.uses))) (use_named p))

-- PAIR

edge_named : (s : SolidData) (d : ShellRows) (e : ℕ) → AreFailing (at_edge RuleUnpaired (edge_name (slice_get s.edges e)) (IsPaired d e) ∷ [])
    (map (unpaired_failing s) (edge_unpaired d e))
edge_named s d e = by_tests (row_count d e true == 1) (row_count d e false == 1) refl refl (eqb_tells (row_count d e true) 1)
    (eqb_tells (row_count d e false) 1)
  where
    o : Obligation
    o = at_edge RuleUnpaired (edge_name (slice_get s.edges e)) (IsPaired d e)

    found_at : Bool → Type 0
    found_at b = AreFailing (o ∷ [])
        (map (unpaired_failing s) (if b then [] else record { edge = record { 0 = e }; along = row_count d e true; against = row_count d e false } ∷ []))

    by_tests : (a b : Bool) → (row_count d e true == 1) ≡ a → (row_count d e false == 1) ≡ b
        → (((row_count d e true == 1) ≡ true) × (row_count d e true ≡ 1)) ⊎ (((row_count d e true == 1) ≡ false) × (row_count d e true ≡ 1 → ⊥))
        → (((row_count d e false == 1) ≡ true) × (row_count d e false ≡ 1)) ⊎ (((row_count d e false == 1) ≡ false) × (row_count d e false ≡ 1 → ⊥))
        → found_at ((row_count d e true == 1) && (row_count d e false == 1))
    by_tests a b ea eb (inl x) (inl y) = subst (λ t. found_at t) (sym (ap (λ t. t && (row_count d e false == 1)) x.0 ∙ y.0)) (holds_too o [] [] (x.1, y.1) refl)
    by_tests a b ea eb (inl x) (inr y) = subst (λ t. found_at t) (sym (ap (λ t. t && (row_count d e false == 1)) x.0 ∙ y.0))
        (fails_too o [] o.failing [] (λ h. y.1 h.1) refl refl)
    by_tests a b ea eb (inr x) y = subst (λ t. found_at t) (sym (ap (λ t. t && (row_count d e false == 1)) x.0))
        (fails_too o [] o.failing [] (λ h. x.1 h.0) refl refl)

pub unpaired_named : (s : SolidData) (d : ShellRows) → AreFailing (pair_obligations s d) (map (unpaired_failing s) (unpaired_of d))
unpaired_named s d = failing_map (λ e. at_edge RuleUnpaired (edge_name (slice_get s.edges e)) (IsPaired d e)) (edge_unpaired d) (unpaired_failing s) d.edges
    (edge_named s d)

-- APART

pub any_has : (v : ℕ) (ids : List ℕ) → list_any (λ m. m == v) ids ≡ true → Has ids v
any_has v [] h = absurd cc
any_has v (m ∷ ids) h = by_test (m == v) refl (λ g. any_has v ids g) h
  where
    by_test : (b : Bool) → (m == v) ≡ b → (list_any (λ k. k == v) ids ≡ true → Has ids v) → (b || list_any (λ k. k == v) ids) ≡ true → Has (m ∷ ids) v
    by_test true e on g = inl (eqb-true m v e)
    by_test false e on g = inr (on g)

-- a vertex of some is shared, or it is apart
vertex_named : (s : SolidData) (k v : ℕ) (vs before : List ℕ) (b : Bool) → before ≡ flat_map (shell_vertices s) (take k s.shells)
    → list_any (λ m. m == v) before ≡ b
    → AreFailing (map (λ w. at_vertex Shared (vertex_name (slice_get s.vertices w)) (IsApart s k w)) vs) (map (shared_failing s) (occurring vs before))
    → AreFailing (map (λ w. at_vertex Shared (vertex_name (slice_get s.vertices w)) (IsApart s k w)) (v ∷ vs))
    (map (shared_failing s) (if b then v ∷ occurring vs before else occurring vs before))
vertex_named s k v vs before true is e rest =
    let o : ℕ → Obligation = λ w. at_vertex Shared (vertex_name (slice_get s.vertices w)) (IsApart s k w) in
    fails_too (o v) (map o vs) (shared_failing s v) (map (shared_failing s) (occurring vs before))
    (λ h. h (subst (λ xs. Contains xs v) is (Contains-from_Has before v (any_has v before e)))) refl rest
vertex_named s k v vs before false is e rest =
    let o : ℕ → Obligation = λ w. at_vertex Shared (vertex_name (slice_get s.vertices w)) (IsApart s k w) in
    holds_too (o v) (map o vs) (map (shared_failing s) (occurring vs before))
    (λ has. absurd (let clash : false ≡ true = sym e ∙ found v before (Has-from_Contains before v (subst (λ xs. Contains xs v) (sym is) has)) in cc)) rest

vertices_named : (s : SolidData) (k : ℕ) (vs before : List ℕ) → before ≡ flat_map (shell_vertices s) (take k s.shells)
    → AreFailing (map (λ w. at_vertex Shared (vertex_name (slice_get s.vertices w)) (IsApart s k w)) vs) (map (shared_failing s) (occurring vs before))
vertices_named s k [] before is = refl
vertices_named s k (v ∷ vs) before is = vertex_named s k v vs before (list_any (λ m. m == v) before) is refl (vertices_named s k vs before is)

pub shared_named : (s : SolidData) (k : ℕ) (d : ShellRows) → AreFailing (apart_obligations s k d) (map (shared_failing s) (shared_of s k d))
shared_named s k d = vertices_named s k d.vertices (flat_map (shell_vertices s) (take k s.shells)) refl
