-- Where edges are paired, the faces outside of the first part are the ones that aren't reached.
use Rattle.std.specs.Prelude.{◌≡◌, ◌≤◌, ◌+◌, ℕ, zero, suc, Bool, true, false, not, List, [], ◌∷◌, ◌⊎◌, length, map, Some, slice_get}
use Rattle.std.specs.List.{enumerate_from}
use Rattle.std.proofs.Common.{refl, sym, ◌∙◌, ap, subst, arith, inl, inr, ⊎_elim}
use Rattle.std.proofs.lemmas.Option.{same_Some}
use Rattle.solid_data.specs.Chain.{Steps, LeadsTo}
use Rattle.solid_data.specs.Obligations.{obligation}
use Rattle.solid_data.specs.declared.solid.EdgeId.{EdgeId}
use Rattle.solid_data.specs.declared.solid.FaceUse.{FaceUse}
use Rattle.solid_data.specs.declared.solid.Shell.{Shell}
use Rattle.solid_data.specs.declared.verdict.Rule.TheVariants.{Unreached}
use Rattle.solid_data.proofs.Trail.{leads_here, leads_one, leads_last}
use Rattle.edge_uses.specs.declared.row.Row.{Row}
use Rattle.edge_uses.specs.RowRelations.{AreMates}
use Rattle.edge_uses.specs.Around.{AreNeighbours, IsReached}
use Rattle.edge_uses.specs.ShellRows.{ShellRows}
use Rattle.shell_rules.specs.ShellObligations.{reach_obligations}
use Rattle.edge_uses.proofs.Turn.{PairedRows, one_of_edge, pair_counts}
use Rattle.solid_faults.specs.Failing.{AreFailing}
use Rattle.solid_faults.specs.Parts.{ShareEdge, AreConnected, AreParts, failing_faces}
use Rattle.solid_faults.proofs.FailingLemmas.{holds_too, fails_too}

pub share_back : (d : ShellRows) (a b : ℕ) → ShareEdge d a b → ShareEdge d b a
share_back d a b h = record {
  r = h.q;
  q = h.r;
  row = h.other;
  other = h.row;
  at_r = h.at_q;
  at_q = h.at_r;
  one_edge = sym h.one_edge;
  on_a = h.on_b;
  on_b =
      h.on_a;
}

connected_steps : (d : ShellRows) (n a b : ℕ) → Steps (ShareEdge d) n a b → AreConnected d b a
connected_steps d zero a b e = subst (λ x. AreConnected d x a) e (leads_here (ShareEdge d) a)
connected_steps d (suc n) a b (c, h, rest) = leads_last (ShareEdge d) b c a (connected_steps d n c b rest) (share_back d a c h)

-- connected faces are so both ways
pub connected_back : (d : ShellRows) (a b : ℕ) → AreConnected d a b → AreConnected d b a
connected_back d a b h = connected_steps d h.0 a b h.1

-- neighbours share an edge
neighbours_share : (d : ShellRows) (a b : ℕ) → AreNeighbours d a b → ShareEdge d a b
neighbours_share d a b (r, m, mates, on_a, on_b) = record {
  r = r;
  q = m;
  row = mates.row;
  other = mates.mate;
  at_r = mates.at_r;
  at_q = mates.at_m;
  one_edge = mates.one_edge;
  on_a = ap (λ (x : Row). x.at.face.0) (same_Some mates.row on_a.0 (sym mates.at_r ∙ on_a.1)) ∙ on_a.2;
  on_b = ap (λ (x : Row). x.at.face.0) (same_Some mates.mate on_b.0 (sym mates.at_m ∙ on_b.1)) ∙ on_b.2;
}

ways : (x y : Bool) → (x ≡ y) ⊎ (x ≡ not y)
ways true true = inl refl
ways true false = inr refl
ways false true = inr refl
ways false false = inl refl

-- where edges are paired, faces that share an edge are one face or neighbours
share_neighbours : (d : ShellRows) → PairedRows d → (a b : ℕ) → ShareEdge d a b → (a ≡ b) ⊎ AreNeighbours d a b
share_neighbours d paired a b h =
    ⊎_elim
    (λ same.
    let e : ℕ = h.row.edge.0 in
    let one : h.r ≡ h.q = one_of_edge d e h.row.along h.r h.q h.row h.other (pair_counts d e h.row.along (paired h.r h.row h.at_r)) h.at_r h.at_q refl
    (ap (λ (x : EdgeId). x.0) (sym h.one_edge)) refl (sym same) in
    let rows : h.row ≡ h.other = same_Some h.row h.other (sym h.at_r ∙ (ap (λ n. slice_get d.rows n) one ∙ h.at_q)) in
    inl (sym h.on_a ∙ (ap (λ (x : Row). x.at.face.0) rows ∙ h.on_b)))
    (λ other.
    let mates : AreMates d h.r h.q = record { row = h.row; mate = h.other; at_r = h.at_r; at_m = h.at_q; one_edge = h.one_edge; opposite = other } in
    inr (h.r, h.q, mates, (h.row, h.at_r, h.on_a), (h.other, h.at_q, h.on_b)))
    (ways h.row.along h.other.along)

neighbour_chain : (d : ShellRows) (n a b : ℕ) → Steps (AreNeighbours d) n a b → AreConnected d a b
neighbour_chain d zero a b e = subst (λ x. AreConnected d a x) e (leads_here (ShareEdge d) a)
neighbour_chain d (suc n) a b (c, h, rest) = leads_one (ShareEdge d) a c b (neighbours_share d a c h) (neighbour_chain d n c b rest)

share_chain : (d : ShellRows) → PairedRows d → (n a b : ℕ) → Steps (ShareEdge d) n a b → LeadsTo (AreNeighbours d) a b
share_chain d paired zero a b e = subst (λ x. LeadsTo (AreNeighbours d) a x) e (leads_here (AreNeighbours d) a)
share_chain d paired (suc n) a b (c, h, rest) =
    let more : LeadsTo (AreNeighbours d) c b = share_chain d paired n c b rest in
    ⊎_elim (λ same. subst (λ x. LeadsTo (AreNeighbours d) x b) (sym same) more) (λ near. leads_one (AreNeighbours d) a c b near more)
    (share_neighbours d paired a c h)

-- a face is reached exactly where its part is the first face's
pub first_part_reached : (d : ShellRows) (firsts : List ℕ) (f : ℕ) → PairedRows d → AreParts d firsts → slice_get firsts f ≡ Some 0 → IsReached d f
first_part_reached d firsts f paired parts at = let k = connected_back d f 0 (parts.connected f 0 at) in share_chain d paired k.0 0 f k.1

pub reached_first_part : (d : ShellRows) (firsts : List ℕ) (f p : ℕ) → AreParts d firsts → slice_get firsts f ≡ Some p → IsReached d f → p ≤ 0
reached_first_part d firsts f p parts at h = parts.least f p 0 at (connected_back d 0 f (neighbour_chain d h.0 0 f h.1))

faces_from : (d : ShellRows) (firsts : List ℕ) → PairedRows d → AreParts d firsts → (fs : List FaceUse) (i : ℕ) (ps : List ℕ) → length fs ≡ length ps
    → ((j p : ℕ) → slice_get ps j ≡ Some p → slice_get firsts (i + j) ≡ Some p)
    → AreFailing (map (λ (f : ℕ × FaceUse). obligation Unreached f.1.entity.0 0 (IsReached d f.0)) (enumerate_from i fs)) (failing_faces fs ps)
faces_from d firsts paired parts [] i ps long at = refl
faces_from d firsts paired parts (f ∷ fs) i [] long at = absurd (omega (arith, long))
faces_from d firsts paired parts (f ∷ fs) i (zero ∷ ps) long at =
    let here : i + 0 ≡ i = omega arith in
    holds_too (obligation Unreached f.entity.0 0 (IsReached d i))
    (map (λ (f : ℕ × FaceUse). obligation Unreached f.1.entity.0 0 (IsReached d f.0)) (enumerate_from (i + 1) fs)) (failing_faces fs ps)
    (first_part_reached d firsts i paired parts (subst (λ n. slice_get firsts n ≡ Some 0) here (at 0 0 refl)))
    (faces_from d firsts paired parts fs (i + 1) ps (omega (arith, long))
    (λ j p h. let e : i + suc j ≡ i + 1 + j = omega arith in subst (λ n. slice_get firsts n ≡ Some p) e (at (suc j) p h)))
faces_from d firsts paired parts (f ∷ fs) i (suc q ∷ ps) long at =
    let here : i + 0 ≡ i = omega arith in
    fails_too (obligation Unreached f.entity.0 0 (IsReached d i))
    (map (λ (f : ℕ × FaceUse). obligation Unreached f.1.entity.0 0 (IsReached d f.0)) (enumerate_from (i + 1) fs))
    (record { rule = Unreached; entity = f.entity; place = 0 }) (failing_faces fs ps)
    (λ h. let low = reached_first_part d firsts i (suc q) parts (subst (λ n. slice_get firsts n ≡ Some (suc q)) here (at 0 (suc q) refl)) h in omega
    (arith, low)) refl
    (faces_from d firsts paired parts fs (i + 1) ps (omega (arith, long))
    (λ j p h. let e : i + suc j ≡ i + 1 + j = omega arith in subst (λ n. slice_get firsts n ≡ Some p) e (at (suc j) p h)))

pub parts_named : (d : ShellRows) (shell : Shell) (firsts : List ℕ) → PairedRows d → d.face_count ≡ length shell.faces → AreParts d firsts
    → AreFailing (reach_obligations shell d) (failing_faces shell.faces firsts)
parts_named d shell firsts paired count parts =
    faces_from d firsts paired parts shell.faces 0 firsts (sym count ∙ sym parts.each)
    (λ j p h. let e : j ≡ 0 + j = omega arith in subst (λ n. slice_get firsts n ≡ Some p) e h)
