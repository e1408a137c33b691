-- What the faces of a shell use has the counts of its rows.
use Rattle.std.specs.Prelude.{◌≡◌, ◌<◌, ◌+◌, ℕ, suc, Bool, true, false, List, [], ◌∷◌, ◌++◌, All, length, map, flat_map, filter_map, Option, Some, slice_get}
use Rattle.std.specs.List.{enumerate_from, cons_option}
use Rattle.std.proofs.Common.{refl, sym, ◌∙◌, ap, subst, inl, inr}
use Rattle.std.proofs.lemmas.Grind.{flat_map-append}
use Rattle.std.proofs.lemmas.List.{length-append}
use Rattle.solid_data.proofs.Members.{Has, get_some, has_left, has_right}
use Rattle.solid_data.proofs.Occurs.{all_at}
use Rattle.solid_data.specs.Numbering.{IsNumberedSolid}
use Rattle.solid_data.specs.Ring.{numbers_from}
use Rattle.solid_data.specs.SolidData.{SolidData, PlacedLoop, edge_used, occurring, placed_in_face, placed_loops, same_flag, shell_edges, shell_vertices}
use Rattle.solid_data.specs.declared.solid.Edge.{Edge}
use Rattle.solid_data.specs.declared.solid.EdgeId.{EdgeId}
use Rattle.solid_data.specs.declared.solid.FaceUse.{FaceUse}
use Rattle.solid_data.specs.declared.solid.Loop.{Loop}
use Rattle.solid_data.specs.declared.solid.LoopAt.{LoopAt}
use Rattle.solid_data.specs.declared.solid.LoopUse.{LoopUse}
use Rattle.solid_data.specs.declared.solid.LoopUse.TheVariants.{EdgeUse, VertexUse}
use Rattle.solid_data.specs.declared.solid.Shell.{Shell}
use Rattle.edge_uses.specs.declared.row.Row.{Row}
use Rattle.edge_uses.specs.Before.{face_vertices}
use Rattle.edge_uses.specs.Building.{HasKnownParts, uses_in, uses_of}
use Rattle.edge_uses.specs.ShellRows.{loop_rows, row_of, row_of_edge, rows_of, shell_rows}
use Rattle.edge_uses.proofs.Above.{shell_flat}
use Rattle.edge_uses.proofs.Made.{rows_known}
use Rattle.shell_components.specs.FaceUses.{face_edges, loop_edges}
use Rattle.shell_counts.specs.Counts.{AreCounts}

-- the edges of a shell, face by face
loops_edges : (face : ℕ) (flag : Bool) (i : ℕ) (ls : List Loop)
    → flat_map edge_used (flat_map uses_in
    (map (λ (l : ℕ × Loop). record { at = record { face = record { 0 = face }; place = l.0 }; forwards = flag; loop = l.1 }) (enumerate_from i ls)))
    ≡ flat_map loop_edges ls
loops_edges face flag i [] = refl
loops_edges face flag i (l ∷ ls) =
    let rest : List LoopUse =
    flat_map uses_in (map (λ (l : ℕ × Loop). record { at = record { face = record { 0 = face }; place = l.0 }; forwards = flag; loop = l.1 })
    (enumerate_from (i + 1) ls)) in
    flat_map-append edge_used l.uses rest ∙ ap (λ es. loop_edges l ++ es) (loops_edges face flag (i + 1) ls)

faces_edges : (flag : Bool) (i : ℕ) (fs : List FaceUse) → flat_map edge_used (flat_map uses_in (flat_map (placed_in_face flag) (enumerate_from i fs)))
    ≡ flat_map face_edges fs
faces_edges flag i [] = refl
faces_edges flag i (f ∷ fs) =
    let here : List PlacedLoop = placed_in_face flag (i, f) in
    let rest : List PlacedLoop = flat_map (placed_in_face flag) (enumerate_from (i + 1) fs) in
    ap (flat_map edge_used) (flat_map-append uses_in here rest)
    ∙ (flat_map-append edge_used (flat_map uses_in here) (flat_map uses_in rest)
    ∙ (ap (λ es. es ++ flat_map edge_used (flat_map uses_in rest)) (loops_edges i _ 0 f.loops)
    ∙ ap (λ es. face_edges f ++ es) (faces_edges flag (i + 1) fs)))

-- each use of an edge that the solid has is a row
row_there : (at : LoopAt) (edge : EdgeId) (along : Bool) (e : Edge) (rest : List Row)
    → length (cons_option (row_of_edge at edge along (Some e)) rest) ≡ suc (length rest)
row_there at edge true e rest = refl
row_there at edge false e rest = refl

uses_counted : (s : SolidData) (p : PlacedLoop) (us : List LoopUse) → ((e : ℕ) → Has (flat_map edge_used us) e → e < length s.edges)
    → length (filter_map (row_of s p) us) ≡ length (flat_map edge_used us)
uses_counted s p [] known = refl
uses_counted s p (VertexUse vertex ∷ us) known = uses_counted s p us known
uses_counted s p (EdgeUse edge along ∷ us) known =
    let there : (e : Edge) × (slice_get s.edges edge.0 ≡ Some e) = get_some s.edges edge.0 (known edge.0 (inl refl)) in
    ap (λ (o : Option Edge). length (cons_option (row_of_edge p.at edge (same_flag along p.forwards) o) (filter_map (row_of s p) us))) there.1
    ∙ (row_there p.at edge (same_flag along p.forwards) there.0 (filter_map (row_of s p) us)
    ∙ ap suc (uses_counted s p us (λ e m. known e (inr m))))

loops_counted : (s : SolidData) (ps : List PlacedLoop) → ((e : ℕ) → Has (flat_map edge_used (uses_of ps)) e → e < length s.edges)
    → length (flat_map (loop_rows s) ps) ≡ length (flat_map edge_used (uses_of ps))
loops_counted s [] known = refl
loops_counted s (p ∷ ps) known =
    let split : flat_map edge_used (uses_of (p ∷ ps)) ≡ flat_map edge_used p.loop.uses ++ flat_map edge_used (uses_of ps) =
    flat_map-append edge_used p.loop.uses (uses_of ps) in
    let here = uses_counted s p p.loop.uses (λ e m. known e (subst (λ xs. Has xs e) (sym split)
    (has_left (flat_map edge_used p.loop.uses) (flat_map edge_used (uses_of ps)) e m))) in
    let rest = loops_counted s ps (λ e m. known e (subst (λ xs. Has xs e) (sym split)
    (has_right (flat_map edge_used p.loop.uses) (flat_map edge_used (uses_of ps)) e m))) in
    length-append (loop_rows s p) (flat_map (loop_rows s) ps)
    ∙ (ap (λ n. n + length (flat_map (loop_rows s) ps)) here
    ∙ (ap (λ n. length (flat_map edge_used p.loop.uses) + n) rest
    ∙ (sym (length-append (flat_map edge_used p.loop.uses) (flat_map edge_used (uses_of ps))) ∙ ap (λ (xs : List ℕ). length xs) (sym split))))

rows_counted : (s : SolidData) (h : Shell) → HasKnownParts s h → length (shell_edges h) ≡ length (shell_rows s h).rows
unfolding shell_rows
rows_counted s h known = sym (loops_counted s (placed_loops h) (λ e m. all_at (λ e. e < length s.edges) (shell_edges h) e known.edges m))

-- what occurs among the numbers listed is what occurs in the shell
occurring_counted : (out listed used : List ℕ) (n : ℕ) → ((m : ℕ) → All (λ k. k < m) listed → out ≡ occurring (numbers_from 0 m) listed)
    → listed ≡ used → All (λ k. k < n) used → length out ≡ length (occurring (numbers_from 0 n) used)
occurring_counted out listed used n made is below =
    ap (λ (xs : List ℕ). length xs) (made n (subst (All (λ k. k < n)) (sym is) below) ∙ ap (occurring (numbers_from 0 n)) is)

counted : (s : SolidData) (h : Shell) (edges vertices es vs : List ℕ) → HasKnownParts s h → edges ≡ flat_map face_edges h.faces
    → vertices ≡ flat_map (face_vertices s) h.faces
    → ((m : ℕ) → All (λ k. k < m) edges → es ≡ occurring (numbers_from 0 m) edges)
    → ((m : ℕ) → All (λ k. k < m) vertices → vs ≡ occurring (numbers_from 0 m) vertices)
    → AreCounts (record { uses = length edges; edges = length es; vertices = length vs }) (shell_rows s h)
unfolding shell_rows
counted s h edges vertices es vs known used met edges_made vertices_made =
    let edges_are : edges ≡ shell_edges h = used ∙ sym (faces_edges h.flag 0 h.faces) in
    let vertices_are : vertices ≡ shell_vertices s h = met ∙ sym (shell_flat s h) in
    record {
      uses = ap (λ (xs : List ℕ). length xs) edges_are ∙ rows_counted s h known;
      edges = occurring_counted es edges (shell_edges h) (length s.edges) edges_made edges_are known.edges;
      vertices = occurring_counted vs vertices (shell_vertices s h) (length s.vertices) vertices_made vertices_are known.vertices;
    }

pub shell_counted : (s : SolidData) (k : ℕ) (h : Shell) (edges vertices es vs : List ℕ) → IsNumberedSolid s → slice_get s.shells k ≡ Some h
    → edges ≡ flat_map face_edges h.faces → vertices ≡ flat_map (face_vertices s) h.faces
    → ((m : ℕ) → All (λ k. k < m) edges → es ≡ occurring (numbers_from 0 m) edges)
    → ((m : ℕ) → All (λ k. k < m) vertices → vs ≡ occurring (numbers_from 0 m) vertices)
    → AreCounts (record { uses = length edges; edges = length es; vertices = length vs }) (rows_of s (slice_get s.shells k))
shell_counted s k h edges vertices es vs numbered is used met edges_made vertices_made =
    subst (λ (o : Option Shell). AreCounts (record { uses = length edges; edges = length es; vertices = length vs }) (rows_of s o)) (sym is)
    (counted s h edges vertices es vs (rows_known s k h numbered is) used met edges_made vertices_made)
