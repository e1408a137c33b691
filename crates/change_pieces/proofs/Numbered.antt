-- Shells and edges of which all that a numbered solid keeps was seen make one.
use Rattle.std.specs.Prelude.{◌≡◌, ◌<◌, ◌+◌, ◌^◌, ◌==◌, not, cond, ℕ, zero, suc, Bool, true, false, List, [], ◌∷◌, ◌++◌, length, map, flat_map, filter}
use Rattle.std.proofs.Common.{refl, sym, ◌∙◌, ap, subst, arith}
use Rattle.std.proofs.lemmas.Bool.{eqb-true, and_parts}
use Rattle.std.proofs.lemmas.List.{length-map, map-append}
use Rattle.iges_base.specs.declared.entry_no.EntryNo.{EntryNo}
use Rattle.solid_data.specs.Numbering.{IsNumberedSolid, InOrderOfAppearance}
use Rattle.solid_data.specs.Ring.{distinct, numbers_from}
use Rattle.solid_data.specs.SolidData.{SolidData, placed_loops, shell_uses, shell_vertices, edge_used, vertices_used, same_edge, same_vertex}
use Rattle.solid_data.specs.declared.solid.Edge.{Edge}
use Rattle.solid_data.specs.declared.solid.EdgeKey.{EdgeKey}
use Rattle.solid_data.specs.declared.solid.Shell.{Shell}
use Rattle.solid_data.specs.declared.solid.VertexKey.{VertexKey}
use Rattle.solid_data.proofs.Occurring.{length-numbers, numbers_more}
use Rattle.change_pieces.specs.Numbered.{AreNumbered}
use Rattle.change_pieces.specs.Reading.{own_key, Climbs}
use Rattle.change_pieces.proofs.Appearing.{in_order}
use Rattle.change_pieces.proofs.Flat.{flat_flat, loops_have, faces_have, shells_have, fewer_faces, fewer_loops, each_from, HasUses, HasLoops, HasFaces, faces_in}

-- items of which each has another number stand once each

later_differ : {A : Type 0} (same : A → A → Bool) (f : A → ℕ) → ((a b : A) → same a b ≡ true → f a ≡ f b) → (x : A) (least : ℕ) (xs : List A) → f x < least
    → Climbs f least xs → filter (λ y. not (same x y)) xs ≡ xs
later_differ same f tells x least [] lt h = refl
later_differ {A = A} same f tells x least (y ∷ xs) lt h = by_test (same x y) refl (later_differ same f tells x (least + 1) xs (omega (arith, lt)) h.1)
  where
    by_test : (b : Bool) → same x y ≡ b → filter (λ z. not (same x z)) xs ≡ xs → filter (λ z. not (same x z)) (y ∷ xs) ≡ y ∷ xs
    by_test true is rest = let e = tells x y is in absurd (omega (arith, e, lt, h.0))
    by_test false is rest =
        ap (λ b. cond (not b) (y ∷ filter (λ z. not (same x z)) xs) (filter (λ z. not (same x z)) xs)) is ∙ ap (λ zs. y ∷ zs) rest

climbs_once : {A : Type 0} (same : A → A → Bool) (f : A → ℕ) → ((a b : A) → same a b ≡ true → f a ≡ f b) → (least : ℕ) (xs : List A) → Climbs f least xs
    → distinct same xs ≡ xs
climbs_once same f tells least [] h = refl
climbs_once same f tells least (x ∷ xs) h =
    ap (λ ys. x ∷ filter (λ y. not (same x y)) ys) (climbs_once same f tells (least + 1) xs h.1)
    ∙ ap (λ ys. x ∷ ys) (later_differ same f tells x (least + 1) xs (omega (arith, h.0)) h.1)

edge_key : Edge → EdgeKey
edge_key e = e.key

keys_climb : (least : ℕ) (es : List Edge) → Climbs (λ (e : Edge). e.key.index) least es → Climbs (λ (k : EdgeKey). k.index) least (map (λ (e : Edge). e.key) es)
keys_climb least [] h = tt
keys_climb least (e ∷ es) h = (h.0, keys_climb (least + 1) es h.1)

own_climb : (base n : ℕ) → Climbs (λ (k : VertexKey). k.index) (base + 1) (map own_key (numbers_from base n))
own_climb base zero = tt
own_climb base (suc n) = (refl, own_climb (base + 1) n)

pub next_key : (i : ℕ) (old new : List VertexKey) (key : VertexKey) → old ≡ map own_key (numbers_from 0 i) → key ≡ own_key i → new ≡ old ++ key ∷ []
    → new ≡ map own_key (numbers_from 0 (i + 1))
next_key i old new key is is_key more =
    let same : i ≡ 0 + i = omega arith in
    more
    ∙ (ap (λ ks. ks ++ key ∷ []) is
    ∙ (ap (λ k. map own_key (numbers_from 0 i) ++ k ∷ []) is_key
    ∙ (sym (map-append own_key (numbers_from 0 i) (i ∷ []))
    ∙ (ap (λ k. map own_key (numbers_from 0 i ++ k ∷ [])) same ∙ ap (map own_key) (sym (numbers_more 0 i))))))

pub solid_numbered : (entity : EntryNo) (shells : List Shell) (edges : List Edge) (vertices : List VertexKey) (count : ℕ) → entity.0 < 10 ^ 9
    → AreNumbered shells edges count → vertices ≡ map own_key (numbers_from 0 count)
    → IsNumberedSolid (record { entity = entity; shells = shells; edges = edges; vertices = vertices })
solid_numbered entity shells edges vertices count number n own =
    let s : SolidData = record { entity = entity; shells = shells; edges = edges; vertices = vertices } in
    let uses : _ = flat_map shell_uses shells in
    let long : count ≡ length vertices =
    sym (ap (λ (ks : List VertexKey). length ks) own ∙ (length-map (numbers_from 0 count) own_key ∙ length-numbers 0 count)) in
    let few_loops = fewer_loops shells n.filled in
    let few_faces = fewer_faces shells n.filled in
    record {
      edges = subst (λ ns. InOrderOfAppearance ns (length edges)) (flat_flat edge_used shell_uses shells)
          (in_order (flat_map edge_used uses) (length edges) n.edge_count);
      vertices = subst (λ k. InOrderOfAppearance (flat_map (shell_vertices s) shells) k) long
          (subst (λ ns. InOrderOfAppearance ns count) (flat_flat (vertices_used s) shell_uses shells)
          (in_order (flat_map (vertices_used s) uses) count (n.vertices s refl)));
      edge_keys = climbs_once same_edge (λ (k : EdgeKey). k.index) (λ a b e. eqb-true a.index b.index (and_parts (a.«list».0 == b.«list».0) (a.index == b.index) e).1) 1
          (map (λ (e : Edge). e.key) edges) (keys_climb 1 edges n.keys);
      vertex_keys = subst (λ ks. distinct same_vertex ks ≡ ks) (sym own)
          (climbs_once same_vertex (λ (k : VertexKey). k.index) (λ a b e. eqb-true a.index b.index (and_parts (a.«list».0 == b.«list».0) (a.index == b.index) e).1) 1
          (map own_key (numbers_from 0 count)) (own_climb 0 count));
      each_loop = each_from HasUses (flat_map placed_loops shells) (loops_have shells n.filled);
      each_face = each_from HasLoops (flat_map faces_in shells) (faces_have shells n.filled);
      each_shell = each_from HasFaces shells (shells_have shells n.filled);
      few_uses = n.few;
      few_loops = omega (arith, n.few, few_loops);
      few_faces = omega (arith, n.few, few_loops, few_faces);
      number = number;
    }
