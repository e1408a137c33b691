-- Edges that are numbered were looked at.
use Rattle.std.specs.Prelude.{◌≡◌, ◌||◌, ◌⊎◌, ℤ, pos, Bool, true, false, List, [], ◌∷◌, ◌++◌, flat_map, Some, Ok, if◌then◌else◌}
use Rattle.std.specs.List.{list_any}
use Rattle.std.proofs.Common.{refl, sym, ◌∙◌, ap, subst, inl, inr}
use Rattle.std.proofs.lemmas.List.{append-nil}
use Rattle.std.proofs.lemmas.List.Folds.{list_any-append}
use Rattle.indexmap.specs.IndexSet.{insert_key, insert_all}
use Rattle.iges_params.specs.Contents.{Contents}
use Rattle.brep_lists.specs.Record.{LoopTuple}
use Rattle.brep_lists.specs.declared.edge_list.EdgeTuple.{EdgeTuple}
use Rattle.solid_data.specs.Obligations.{AllHold, entry_number}
use Rattle.solid_data.specs.SolidData.{same_edge, same_vertex}
use Rattle.solid_data.specs.Ring.{place_of}
use Rattle.solid_data.specs.declared.solid.EdgeId.{EdgeId}
use Rattle.solid_data.specs.declared.solid.LoopUse.TheVariants.{EdgeUse}
use Rattle.solid_data.specs.declared.solid.EdgeKey.{EdgeKey}
use Rattle.solid_data.specs.declared.solid.VertexKey.{VertexKey}
use Rattle.brep_numbering.specs.Numbered.{Numbered}
use Rattle.brep_walk.specs.Numbered.{AreNumbered, IsKnownEdge, AreEdges, AreKnownEdges, Extends}
use Rattle.brep_walk.specs.NamedEdges.{IsNamedEdge}
use Rattle.brep_walk.specs.declared.naming.NamedEdge.{NamedEdge}
use Rattle.brep_walk.specs.Places.{edge_at, edge_places}
use Rattle.brep_numbering.specs.Keys.{Keys}
use Rattle.brep_walk.specs.SolidOf.{edge_key, vertex_key, ends_named, edge_by, use_by}
use Rattle.brep_walk.specs.Stands.{Stands}
use Rattle.brep_walk.specs.Walks.{Walks}
use Rattle.brep_walk.specs.declared.state.WalkState.{WalkState}
use Rattle.brep_walk.proofs.Used.{Extends-trans, edge_made}
use Rattle.brep_numbering.proofs.KeyPlaces.{any_append, inserted, insert_more, insert_all_more}
use Rattle.brep_numbering.proofs.SameKeys.{vertex_itself}
use Rattle.brep_numbering.proofs.SameKeys.{edge_sound}

-- a key among those with one more
among : {A : Type 0} (same : A → A → Bool) (ks : List A) (k x : A) → list_any (same x) (insert_key same ks k) ≡ true
    → (list_any (same x) ks ≡ true) ⊎ (same x k ≡ true)
among {A} same ks k x = by_test (list_any (same k) ks)
  where
    one : (a b : Bool) → (a || (b || false)) ≡ true → (a ≡ true) ⊎ (b ≡ true)
    one true b h = inl refl
    one false true h = inr refl
    one false false h = absurd (let g : false ≡ true = h in cc)

    by_test : (t : Bool) → list_any (same x) (if t then ks else ks ++ k ∷ []) ≡ true → (list_any (same x) ks ≡ true) ⊎ (same x k ≡ true)
    by_test true h = inl h
    by_test false h = one (list_any (same x) ks) (same x k) (sym (list_any-append (same x) ks (k ∷ [])) ∙ h)

-- Vertices that are numbered stay so.

still_vertices : (ks more vs : List VertexKey) → AreNumbered ks vs → AreNumbered (ks ++ more) vs
still_vertices ks more [] h = tt
still_vertices ks more (v ∷ vs) h = (any_append (same_vertex v) ks more h.0, still_vertices ks more vs h.1)

put_vertices : (ks vs : List VertexKey) → AreNumbered (insert_all same_vertex ks vs) vs
put_vertices ks [] = tt
put_vertices ks (v ∷ vs) =
    let more = insert_all_more same_vertex (insert_key same_vertex ks v) vs in (
      ap (list_any (same_vertex v)) more.1 ∙ any_append (same_vertex v) (insert_key same_vertex ks v) more.0 (inserted same_vertex vertex_itself ks v),
      put_vertices (insert_key same_vertex ks v) vs,
    )

still_known : (f : Contents) (old new : Keys) (more : List VertexKey) → new.vertices ≡ old.vertices ++ more → (key : EdgeKey) → IsKnownEdge f old key
    → IsKnownEdge f new key
still_known f old new more grown key h = record {
  holds = h.holds;
  vertices = subst (λ ks. AreNumbered ks (ends_named (edge_at f (pos key.«list».0) key.index))) (sym grown)
      (still_vertices old.vertices more (ends_named (edge_at f (pos key.«list».0) key.index)) h.vertices);
}

-- one more edge
pub put_edge : (f : Contents) (old new : Keys) (key : EdgeKey) (ends : EdgeTuple) → AreKnownEdges f old → edge_at f (pos key.«list».0) key.index ≡ Some ends
    → AllHold (edge_places f (pos key.«list».0) key.index (Some ends))
    → new ≡ record { edges = insert_key same_edge old.edges key; vertices = insert_all same_vertex old.vertices (ends_named (Some ends)) } → AreKnownEdges f new
put_edge f old new key ends before at holds is other there =
    by_case (among same_edge old.edges key other (sym (ap (λ (k : Keys). list_any (same_edge other) k.edges) is) ∙ there))
  where
    here : IsKnownEdge f new key
    here = record {
      holds = subst (λ o. AllHold (edge_places f (pos key.«list».0) key.index o)) (sym at) holds;
      vertices = subst (λ o. AreNumbered new.vertices (ends_named o)) (sym at)
          (subst (λ (k : Keys). AreNumbered k.vertices (ends_named (Some ends))) (sym is) (put_vertices old.vertices (ends_named (Some ends))));
    }

    by_case : (list_any (same_edge other) old.edges ≡ true) ⊎ (same_edge other key ≡ true) → IsKnownEdge f new other
    by_case (inl h) =
        let more = insert_all_more same_vertex old.vertices (ends_named (Some ends)) in
        still_known f old new more.0 (ap (λ (k : Keys). k.vertices) is ∙ more.1) other (before other h)
    by_case (inr h) = subst (IsKnownEdge f new) (sym (edge_sound other key h)) here

-- one more vertex

vertex_stands : (f : Contents) (old new : Numbered) (key : VertexKey) → AreEdges f old → AreKnownEdges f old.keys
    → new ≡ record { keys = record { edges = old.keys.edges; vertices = insert_key same_vertex old.keys.vertices key }; edges = old.edges }
    → AreEdges f new × AreKnownEdges f new.keys
vertex_stands f old new key made known is = (
  λ later more. ap (λ (n : Numbered). n.edges) is
      ∙ (made later (Extends-trans old.keys new.keys later grown more) ∙ ap (flat_map (edge_by f later)) (sym same_edges)),
  λ other there. still_known f old.keys new.keys put.0 (same_vertices ∙ put.1) other
      (known other (sym (ap (list_any (same_edge other)) same_edges) ∙ there)),
)
  where
    put : (xs : List VertexKey) × (insert_key same_vertex old.keys.vertices key ≡ old.keys.vertices ++ xs)
    put = insert_more same_vertex old.keys.vertices key

    same_edges : new.keys.edges ≡ old.keys.edges
    same_edges = ap (λ (n : Numbered). n.keys.edges) is

    same_vertices : new.keys.vertices ≡ insert_key same_vertex old.keys.vertices key
    same_vertices = ap (λ (n : Numbered). n.keys.vertices) is

    grown : Extends old.keys new.keys
    grown = record {
      more_edges = [];
      edges = same_edges ∙ sym (append-nil old.keys.edges);
      more_vertices = put.0;
      vertices = same_vertices ∙ put.1;
    }

-- What a tuple of a vertex does to the state of a walk, and one of an edge; t is what the tuple says.

pub vertex_walks : (before after : WalkState) {X : Type 0} (x : X) (t : LoopTuple) → t.is_vertex ≡ true → (key : VertexKey) → key ≡ vertex_key t.«list» t.index
    → Stands before.lists before.lists before.numbering → after.lists ≡ before.lists
    → after.numbering ≡ record {
      keys = record {
        edges = before.numbering.keys.edges;
        vertices = insert_key same_vertex before.numbering.keys.vertices key;
      };
      edges = before.numbering.edges;
    } → Walks before after (Ok x) (t ∷ [])
vertex_walks before after x t v key named stood file is =
    let f = before.lists in
    let old = before.numbering.keys in
    let both = vertex_stands f before.numbering after.numbering key stood.edges stood.known is in
    record {
      file = file;
      stands = record { file = file; edges = both.0; known = both.1 };
      keys = λ j. record {
        edges = (ap (λ (n : Numbered). n.keys.edges) is
            ∙ sym (ap (λ b. insert_all same_edge old.edges ((if b then [] else edge_key t.«list» t.index ∷ []) ++ [])) v)) j;
        vertices = (ap (λ (n : Numbered). n.keys.vertices) is ∙ (ap (insert_key same_vertex old.vertices) named
            ∙ sym (ap (λ b. insert_all same_vertex old.vertices
            ((if b then vertex_key t.«list» t.index ∷ [] else ends_named (edge_at f t.«list» (entry_number t.index))) ++ [])) v))) j;
      };
    }

-- g is the file behind the lists once the edge was looked at
pub edge_walks : (before after : WalkState) {X : Type 0} (x : X) (t : LoopTuple) → t.is_vertex ≡ false → (key : EdgeKey) (ends : EdgeTuple)
    → key ≡ edge_key t.«list» t.index → edge_at before.lists t.«list» (entry_number t.index) ≡ Some ends → (g : Contents) → g ≡ before.lists → after.lists ≡ g
    → Stands g after.lists after.numbering
    → after.numbering.keys ≡ record {
      edges = insert_key same_edge before.numbering.keys.edges key;
      vertices = insert_all same_vertex before.numbering.keys.vertices (ends_named (Some ends));
    } → Walks before after (Ok x) (t ∷ [])
edge_walks before after x t v key ends named at g same file stands is =
    let f = before.lists in
    let old = before.numbering.keys in
    record {
      file = file ∙ same;
      stands = subst (λ h. Stands h after.lists after.numbering) same stands;
      keys = λ j. record {
        edges = (ap (λ (k : Keys). k.edges) is ∙ (ap (insert_key same_edge old.edges) named
            ∙ sym (ap (λ b. insert_all same_edge old.edges ((if b then [] else edge_key t.«list» t.index ∷ []) ++ [])) v))) j;
        vertices = (ap (λ (k : Keys). k.vertices) is ∙ (ap (λ o. insert_all same_vertex old.vertices (ends_named o)) (sym at)
            ∙ (ap (insert_all same_vertex old.vertices) (sym (append-nil (ends_named (edge_at f t.«list» (entry_number t.index)))))
            ∙ sym (ap (λ b. insert_all same_vertex old.vertices
            ((if b then vertex_key t.«list» t.index ∷ [] else ends_named (edge_at f t.«list» (entry_number t.index))) ++ [])) v)))) j;
      };
    }

-- what was found of an edge, by the numbers of its tuple, which were given as l and j
pub named_so : (keys : Keys) (f : Contents) (l j l2 j2 : ℤ) → l ≡ l2 → j ≡ j2 → (e : NamedEdge)
    → IsNamedEdge keys (edge_key l j) (edge_at f l (entry_number j)) e → IsNamedEdge keys (edge_key l2 j2) (edge_at f l2 (entry_number j2)) e
named_so keys f l j l2 j2 a b e h =
    subst (λ x. IsNamedEdge keys (edge_key l2 x) (edge_at f l2 (entry_number x)) e) b
    (subst (λ x. IsNamedEdge keys (edge_key x j) (edge_at f x (entry_number j)) e) a h)

-- what an edge that is known makes of a tuple
pub known_made : (t : LoopTuple) → t.is_vertex ≡ false → (keys later : Keys) (e : EdgeId) (along : Bool)
    → (list_any (same_edge (edge_key t.«list» t.index)) keys.edges ≡ true) × (e.0 ≡ place_of same_edge keys.edges (edge_key t.«list» t.index))
    → along ≡ t.flag → Extends keys later → EdgeUse e along ≡ use_by later t
known_made t v keys later e along h flag more =
    edge_made t v keys.edges keys later (edge_key t.«list» t.index) e along refl
    (sym (ap (λ b. if b then keys.edges else keys.edges ++ edge_key t.«list» t.index ∷ []) h.0)) h.1 flag more
