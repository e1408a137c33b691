-- A solid with all face flags true is numbered as the solid is.
use Rattle.std.specs.Prelude.{◌≡◌, ◌<◌, ◌+◌, ℕ, Bool, List, [], ◌∷◌, ◌++◌, length, map, flat_map, slice_get, Some, All}
use Rattle.std.specs.List.{AllByRecursion, enumerate_from}
use Rattle.std.proofs.Common.{refl, sym, ◌∙◌, ap, subst, arith, drop}
use Rattle.std.proofs.lemmas.List.{length-map, map-append}
use Rattle.std.proofs.lemmas.List.Elements.{All-from_recursion, recursion_from_All, All-map}
use Rattle.std.proofs.lemmas.List.Folds.{flat_map-map}
use Rattle.solid_data.specs.Numbering.{IsNumberedSolid, InOrderOfAppearance}
use Rattle.solid_data.specs.SolidData.{SolidData, PlacedLoop, placed_in_face, placed_loops, shell_uses, shell_edges, shell_vertices, edge_used, vertices_used}
use Rattle.solid_data.specs.SolidData.{same_flag}
use Rattle.iges_base.specs.declared.entry_no.EntryNo.{EntryNo}
use Rattle.solid_data.specs.declared.solid.Edge.{Edge}
use Rattle.solid_data.specs.declared.solid.VertexKey.{VertexKey}
use Rattle.solid_data.specs.declared.solid.FaceUse.{FaceUse}
use Rattle.solid_data.specs.declared.solid.Loop.{Loop}
use Rattle.solid_data.specs.declared.solid.LoopUse.{LoopUse}
use Rattle.solid_data.specs.declared.solid.LoopUse.TheVariants.{EdgeUse, VertexUse}
use Rattle.solid_data.specs.declared.solid.Shell.{Shell}
use Rattle.solid_data.proofs.Members.{split_at}
use Rattle.solid_data.proofs.ObligationLemmas.{AllByRecursion-weaker}
use Rattle.solid_faults.proofs.GapSteps.{piece_more}
use Rattle.solid_faults.specs.FaceFlags.{flagged_face, flagged_shell, flagged_solid}

abbrev loop_of : PlacedLoop → Loop
loop_of p = p.loop

abbrev uses_of : Loop → List LoopUse
uses_of l = l.uses

abbrev loops_of : FaceUse → List Loop
loops_of f = f.loops

abbrev faces_of : Shell → List FaceUse
faces_of h = h.faces

-- the loops of a shell, without their places
loops_in : (flag : Bool) (n m : ℕ) (ls : List Loop)
    → map loop_of (map (λ l. record { at = record { face = record { 0 = n }; place = l.0 }; forwards = flag; loop = l.1 }) (enumerate_from m ls)) ≡ ls
loops_in flag n m [] = refl
loops_in flag n m (l ∷ ls) = ap (λ (ks : List Loop). l ∷ ks) (loops_in flag n (m + 1) ls)

faces_in : (flag : Bool) (n : ℕ) (fs : List FaceUse) → map loop_of (flat_map (placed_in_face flag) (enumerate_from n fs)) ≡ flat_map loops_of fs
faces_in flag n [] = refl
faces_in flag n (f ∷ fs) =
    map-append loop_of (placed_in_face flag (n, f)) (flat_map (placed_in_face flag) (enumerate_from (n + 1) fs))
    ∙ (ap (λ (ls : List Loop). ls ++ map loop_of (flat_map (placed_in_face flag) (enumerate_from (n + 1) fs))) (loops_in (same_flag f.flag flag) n 0 f.loops)
    ∙ ap (λ (ls : List Loop). f.loops ++ ls) (faces_in flag (n + 1) fs))

loops_flagged : (fs : List FaceUse) → flat_map loops_of (map flagged_face fs) ≡ flat_map loops_of fs
loops_flagged [] = refl
loops_flagged (f ∷ fs) = ap (λ (ls : List Loop). f.loops ++ ls) (loops_flagged fs)

placed_flagged : (h : Shell) → map loop_of (placed_loops (flagged_shell h)) ≡ map loop_of (placed_loops h)
placed_flagged h = faces_in h.flag 0 (map flagged_face h.faces) ∙ (loops_flagged h.faces ∙ sym (faces_in h.flag 0 h.faces))

-- what is the same of each shell is the same of all
all_flagged : {A : Type 0} (g k : Shell → List A) → ((h : Shell) → g (flagged_shell h) ≡ k h) → (hs : List Shell)
    → flat_map g (map flagged_shell hs) ≡ flat_map k hs
all_flagged g k same [] = refl
all_flagged {A} g k same (h ∷ hs) = ap (λ (xs : List A). xs ++ flat_map g (map flagged_shell hs)) (same h)
    ∙ ap (λ (xs : List A). k h ++ xs) (all_flagged g k same hs)

map_flat : {A B : Type 0} (f : A → B) (g : Shell → List A) (hs : List Shell) → map f (flat_map g hs) ≡ flat_map (λ h. map f (g h)) hs
map_flat f g [] = refl
map_flat {A} {B} f g (h ∷ hs) = map-append f (g h) (flat_map g hs) ∙ ap (λ (ys : List B). map f (g h) ++ ys) (map_flat f g hs)

all_placed : (hs : List Shell) → map loop_of (flat_map placed_loops (map flagged_shell hs)) ≡ map loop_of (flat_map placed_loops hs)
all_placed hs =
    map_flat loop_of placed_loops (map flagged_shell hs)
    ∙ (all_flagged (λ h. map loop_of (placed_loops h)) (λ h. map loop_of (placed_loops h)) placed_flagged hs ∙ sym (map_flat loop_of placed_loops hs))

shell_uses_flagged : (h : Shell) → shell_uses (flagged_shell h) ≡ shell_uses h
shell_uses_flagged h =
    sym (flat_map-map uses_of loop_of (placed_loops (flagged_shell h)))
    ∙ (ap (λ (ls : List Loop). flat_map uses_of ls) (placed_flagged h) ∙ flat_map-map uses_of loop_of (placed_loops h))

shell_edges_flagged : (h : Shell) → shell_edges (flagged_shell h) ≡ shell_edges h
shell_edges_flagged h = ap (λ (us : List LoopUse). flat_map edge_used us) (shell_uses_flagged h)

used_flagged : (s : SolidData) (us : List LoopUse) → flat_map (vertices_used (flagged_solid s)) us ≡ flat_map (vertices_used s) us
used_flagged s [] = refl
used_flagged s (EdgeUse edge along ∷ us) = ap (λ (vs : List ℕ). vertices_used s (EdgeUse edge along) ++ vs) (used_flagged s us)
used_flagged s (VertexUse vertex ∷ us) = ap (λ (vs : List ℕ). vertex.0 ∷ vs) (used_flagged s us)

shell_vertices_flagged : (s : SolidData) (h : Shell) → shell_vertices (flagged_solid s) (flagged_shell h) ≡ shell_vertices s h
shell_vertices_flagged s h = used_flagged s (shell_uses (flagged_shell h)) ∙ ap (λ (us : List LoopUse). flat_map (vertices_used s) us) (shell_uses_flagged h)

-- what holds of the loops, whatever their places are
loops_hold : (P : Loop → Type 0) (ps : List PlacedLoop) → AllByRecursion P (map loop_of ps) → AllByRecursion (λ (p : PlacedLoop). P p.loop) ps
loops_hold P [] h = tt
loops_hold P (p ∷ ps) h = (h.0, loops_hold P ps h.1)

loops_each : (hs : List Shell) → All (λ (p : PlacedLoop). 0 < length p.loop.uses) (flat_map placed_loops hs)
    → All (λ (p : PlacedLoop). 0 < length p.loop.uses) (flat_map placed_loops (map flagged_shell hs))
loops_each hs h =
    let P : Loop → Type 0 = λ l. 0 < length l.uses in
    let old : All P (map loop_of (flat_map placed_loops hs)) = All-map P loop_of (flat_map placed_loops hs) h in
    let new : All P (map loop_of (flat_map placed_loops (map flagged_shell hs))) = subst (All P) (sym (all_placed hs)) old in
    All-from_recursion (λ (p : PlacedLoop). 0 < length p.loop.uses) (flat_map placed_loops (map flagged_shell hs))
    (loops_hold P (flat_map placed_loops (map flagged_shell hs)) (recursion_from_All P (map loop_of (flat_map placed_loops (map flagged_shell hs))) new))

faces_flagged : (hs : List Shell) → flat_map faces_of (map flagged_shell hs) ≡ map flagged_face (flat_map faces_of hs)
faces_flagged hs = all_flagged faces_of (λ h. map flagged_face h.faces) (λ h. refl) hs ∙ sym (map_flat flagged_face faces_of hs)

shells_each : (hs : List Shell) → All (λ (h : Shell). 0 < length h.faces) hs → All (λ (h : Shell). 0 < length h.faces) (map flagged_shell hs)
shells_each hs h =
    All-map (λ (h : Shell). 0 < length h.faces) flagged_shell hs
    (All-from_recursion (λ (h : Shell). 0 < length (map flagged_face h.faces)) hs
    (AllByRecursion-weaker (λ (h : Shell). 0 < length h.faces) (λ (h : Shell). 0 < length (map flagged_face h.faces)) hs
    (λ h lt. omega (arith, lt, length-map h.faces flagged_face)) (recursion_from_All (λ (h : Shell). 0 < length h.faces) hs h)))

loop_count : (hs : List Shell) → length (flat_map placed_loops (map flagged_shell hs)) ≡ length (flat_map placed_loops hs)
loop_count hs =
    sym (length-map (flat_map placed_loops (map flagged_shell hs)) loop_of)
    ∙ (ap (λ (ls : List Loop). length ls) (all_placed hs) ∙ length-map (flat_map placed_loops hs) loop_of)

pub flagged_numbered : (s : SolidData) → IsNumberedSolid s → IsNumberedSolid (flagged_solid s)
flagged_numbered s n = record {
  edges = subst (λ ns. InOrderOfAppearance ns (length s.edges)) (sym (all_flagged shell_edges shell_edges shell_edges_flagged s.shells)) n.edges;
  vertices = subst (λ ns. InOrderOfAppearance ns (length s.vertices))
      (sym (all_flagged (shell_vertices (flagged_solid s)) (shell_vertices s) (shell_vertices_flagged s) s.shells)) n.vertices;
  edge_keys = n.edge_keys;
  vertex_keys = n.vertex_keys;
  each_loop = loops_each s.shells n.each_loop;
  each_face = subst (All (λ (f : FaceUse). 0 < length f.loops)) (sym (faces_flagged s.shells))
      (All-map (λ (f : FaceUse). 0 < length f.loops) flagged_face (flat_map faces_of s.shells) n.each_face);
  each_shell = shells_each s.shells n.each_shell;
  few_uses = omega (arith, ap (λ (us : List LoopUse). length us) (all_flagged shell_uses shell_uses shell_uses_flagged s.shells), n.few_uses);
  few_loops = omega (arith, loop_count s.shells, n.few_loops);
  few_faces = omega (arith, ap (λ (fs : List FaceUse). length fs) (faces_flagged s.shells), length-map (flat_map faces_of s.shells) flagged_face, n.few_faces);
  number = n.number;
}

-- the same, of the parts as they are copied
pub flagged_parts : (s : SolidData) (entity : EntryNo) (shells : List Shell) (edges : List Edge) (vertices : List VertexKey) → entity ≡ s.entity
    → shells ≡ map flagged_shell s.shells → edges ≡ s.edges → vertices ≡ s.vertices → IsNumberedSolid s
    → IsNumberedSolid (record { entity = entity; shells = shells; edges = edges; vertices = vertices })
flagged_parts s entity shells edges vertices is_entity is_shells is_edges is_vertices n =
    subst (λ e. IsNumberedSolid (record { entity = e; shells = shells; edges = edges; vertices = vertices })) (sym is_entity)
    (subst (λ hs. IsNumberedSolid (record { entity = s.entity; shells = hs; edges = edges; vertices = vertices })) (sym is_shells)
    (subst (λ es. IsNumberedSolid (record { entity = s.entity; shells = map flagged_shell s.shells; edges = es; vertices = vertices })) (sym is_edges)
    (subst (λ vs. IsNumberedSolid (record { entity = s.entity; shells = map flagged_shell s.shells; edges = s.edges; vertices = vs })) (sym is_vertices)
    (flagged_numbered s n))))

-- one item more is copied, or mapped
pub copied_step : {A : Type 0} (xs : List A) (x : A) (i : ℕ) (old new : List A) → slice_get xs i ≡ Some x → old ++ drop i xs ≡ xs → new ≡ old ++ x ∷ []
    → new ++ drop (i + 1) xs ≡ xs
copied_step xs x i old new at h e = piece_more old new (x ∷ []) (drop (i + 1) xs) xs (ap (λ ys. old ++ ys) (sym (split_at xs i x at)) ∙ h) e

pub mapped_step : {A B : Type 0} (f : A → B) (xs : List A) (x : A) (i : ℕ) (old new all : List B) → slice_get xs i ≡ Some x → old ++ map f (drop i xs) ≡ all
    → new ≡ old ++ f x ∷ [] → new ++ map f (drop (i + 1) xs) ≡ all
mapped_step f xs x i old new all at h e = piece_more old new (f x ∷ []) (map f (drop (i + 1) xs)) all
    (ap (λ ys. old ++ map f ys) (sym (split_at xs i x at)) ∙ h) e
