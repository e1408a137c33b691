-- The uses that tuples are, by the keys so far.
use Rattle.std.specs.Prelude.{◌≡◌, ℕ, ℤ, pos, Bool, true, false, List, [], ◌∷◌, ◌++◌, flat_map, length, Some, Result, IsErrAnd, IfErr, if◌then◌else◌}
use Rattle.std.specs.List.{list_any}
use Rattle.std.proofs.Common.{sym, ◌∙◌, ap, subst, append_assoc}
use Rattle.std.proofs.lemmas.List.{append-nil}
use Rattle.std.proofs.lemmas.Grind.{flat_map-append}
use Rattle.indexmap.specs.IndexSet.{insert_key}
use Rattle.iges_params.specs.Contents.{Contents}
use Rattle.brep_lists.specs.Record.{LoopTuple}
use Rattle.brep_lists.specs.declared.entity_kind.EntityKind.TheVariants.{EdgeList as edges, VertexList as vertices}
use Rattle.brep_lists.specs.declared.edge_list.EdgeTuple.{EdgeTuple}
use Rattle.solid_data.specs.Obligations.{Obligation, AllHold, entry_number}
use Rattle.solid_data.proofs.ObligationLemmas.{AllHold-append}
use Rattle.solid_data.specs.Ring.{place_of}
use Rattle.solid_data.specs.SolidData.{same_edge, same_vertex}
use Rattle.solid_data.specs.declared.solid.EdgeId.{EdgeId}
use Rattle.solid_data.specs.declared.solid.EdgeKey.{EdgeKey}
use Rattle.solid_data.specs.declared.solid.VertexId.{VertexId}
use Rattle.solid_data.specs.declared.solid.VertexKey.{VertexKey}
use Rattle.solid_data.specs.declared.solid.LoopUse.TheVariants.{EdgeUse, VertexUse}
use Rattle.brep_walk.specs.declared.fault.WalkFault.{WalkFault}
use Rattle.brep_numbering.specs.Numbered.{Numbered}
use Rattle.brep_walk.specs.Numbered.{Extends, AreEdges}
use Rattle.brep_walk.specs.Places.{told, edge_at, item_places, edge_places, used_places}
use Rattle.brep_numbering.specs.Keys.{Keys}
use Rattle.brep_walk.specs.SolidOf.{edge_key, vertex_key, use_by, numbered_by, edge_by}
use Rattle.brep_walk.specs.Walked.{IsFault}
use Rattle.brep_walk.proofs.Faults.{fault_front, fault_rest, handed}
use Rattle.brep_numbering.proofs.KeyPlaces.{any_append, place_stays, inserted, insert_more}
use Rattle.brep_numbering.proofs.SameKeys.{vertex_itself}
use Rattle.brep_walk.proofs.Numbered.{by_key}
use Rattle.brep_numbering.proofs.SameKeys.{edge_itself}

pub Extends-trans : (a b c : Keys) → Extends a b → Extends b c → Extends a c
Extends-trans a b c x y = record {
  more_edges = x.more_edges ++ y.more_edges;
  edges = y.edges ∙ (ap (λ l. l ++ y.more_edges) x.edges ∙ append_assoc a.edges x.more_edges y.more_edges);
  more_vertices = x.more_vertices ++ y.more_vertices;
  vertices = y.vertices ∙ (ap (λ l. l ++ y.more_vertices) x.vertices ∙ append_assoc a.vertices x.more_vertices y.more_vertices);
}

-- a key that was put in keeps its place in later keys
vertex_place : (old : List VertexKey) (new later : Keys) (key : VertexKey) → new.vertices ≡ insert_key same_vertex old key → Extends new later
    → place_of same_vertex new.vertices key ≡ place_of same_vertex later.vertices key
vertex_place old new later key put more =
    sym (place_stays same_vertex new.vertices more.more_vertices key (ap (list_any (same_vertex key)) put ∙ inserted same_vertex vertex_itself old key))
    ∙ ap (λ l. place_of same_vertex l key) (sym more.vertices)

edge_place : (old : List EdgeKey) (new later : Keys) (key : EdgeKey) → new.edges ≡ insert_key same_edge old key → Extends new later
    → place_of same_edge new.edges key ≡ place_of same_edge later.edges key
edge_place old new later key put more =
    sym (place_stays same_edge new.edges more.more_edges key (ap (list_any (same_edge key)) put ∙ inserted same_edge edge_itself old key))
    ∙ ap (λ l. place_of same_edge l key) (sym more.edges)

pub vertex_made : (t : LoopTuple) → t.is_vertex ≡ true → (old : List VertexKey) (new later : Keys) (key : VertexKey) (v : VertexId)
    → key ≡ vertex_key t.«list» t.index
    → new.vertices ≡ insert_key same_vertex old key → v.0 ≡ place_of same_vertex new.vertices key → Extends new later → VertexUse v ≡ use_by later t
vertex_made t is old new later key v named put id more =
    ap (λ n. VertexUse (record { 0 = n })) (id ∙ (vertex_place old new later key put more ∙ ap (place_of same_vertex later.vertices) named))
    ∙ sym (ap (λ b. if b then VertexUse (record { 0 = place_of same_vertex later.vertices (vertex_key t.«list» t.index) })
    else EdgeUse (record { 0 = place_of same_edge later.edges (edge_key t.«list» t.index) }) t.flag) is)

pub edge_made : (t : LoopTuple) → t.is_vertex ≡ false → (old : List EdgeKey) (new later : Keys) (key : EdgeKey) (e : EdgeId) (along : Bool)
    → key ≡ edge_key t.«list» t.index
    → new.edges ≡ insert_key same_edge old key → e.0 ≡ place_of same_edge new.edges key → along ≡ t.flag → Extends new later → EdgeUse e along ≡ use_by later t
edge_made t is old new later key e along named put id flag more =
    ap (λ n. EdgeUse (record { 0 = n }) along) (id ∙ (edge_place old new later key put more ∙ ap (place_of same_edge later.edges) named))
    ∙ (ap (EdgeUse (record { 0 = place_of same_edge later.edges (edge_key t.«list» t.index) })) flag
    ∙ sym (ap (λ b. if b then VertexUse (record { 0 = place_of same_vertex later.vertices (vertex_key t.«list» t.index) })
    else EdgeUse (record { 0 = place_of same_edge later.edges (edge_key t.«list» t.index) }) t.flag) is))

-- The edges after one more was put in.

pub edges_put : (f : Contents) (l j : ℤ) (old new : Numbered) (key : EdgeKey) (ends : EdgeTuple) (from to : VertexKey) → AreEdges f old
    → key ≡ edge_key l j → edge_at f l (entry_number j) ≡ Some ends → from ≡ vertex_key ends.start_list ends.start_index
    → to ≡ vertex_key ends.end_list ends.end_index
    → new.keys ≡ record {
      edges = insert_key same_edge old.keys.edges key;
      vertices = insert_key same_vertex (insert_key same_vertex old.keys.vertices from)
          to;
    }
    → new.edges ≡ (if list_any (same_edge key) old.keys.edges then old.edges else old.edges ++ record {
      key = key;
      from = record { 0 = place_of same_vertex new.keys.vertices from };
      to = record { 0 = place_of same_vertex new.keys.vertices to };
    } ∷ []) → AreEdges f new
edges_put f l j old new key ends from to before named at start end keys is later more =
    is ∙ (by_test (list_any (same_edge key) old.keys.edges) ∙ ap (λ (k : Keys). flat_map (edge_by f later) k.edges) (sym keys))
  where
    mid : List VertexKey
    mid = insert_key same_vertex old.keys.vertices from

    a : (xs : List VertexKey) × (mid ≡ old.keys.vertices ++ xs)
    a = insert_more same_vertex old.keys.vertices from

    b : (xs : List VertexKey) × (insert_key same_vertex mid to ≡ mid ++ xs)
    b = insert_more same_vertex mid to

    c : (xs : List EdgeKey) × (insert_key same_edge old.keys.edges key ≡ old.keys.edges ++ xs)
    c = insert_more same_edge old.keys.edges key

    grown : Extends old.keys new.keys
    grown = record {
      more_edges = c.0;
      edges = ap (λ (k : Keys). k.edges) keys ∙ c.1;
      more_vertices = a.0 ++ b.0;
      vertices = ap (λ (k : Keys). k.vertices) keys ∙ (b.1 ∙ (ap (λ xs. xs ++ b.0) a.1 ∙ append_assoc old.keys.vertices a.0 b.0));
    }

    old_edges : old.edges ≡ flat_map (edge_by f later) old.keys.edges
    old_edges = before later (Extends-trans old.keys new.keys later grown more)

    has_from : list_any (same_vertex from) new.keys.vertices ≡ true
    has_from = ap (λ (k : Keys). list_any (same_vertex from) k.vertices) keys ∙ any_more (insert_key same_vertex mid to) b.0 b.1
      where
        any_more : (xs ys : List VertexKey) → xs ≡ mid ++ ys → list_any (same_vertex from) xs ≡ true
        any_more xs ys e = ap (list_any (same_vertex from)) e ∙ any_append (same_vertex from) mid ys (inserted same_vertex vertex_itself old.keys.vertices from)

    from_place : place_of same_vertex new.keys.vertices from ≡ place_of same_vertex later.vertices (vertex_key ends.start_list ends.start_index)
    from_place =
        sym (place_stays same_vertex new.keys.vertices more.more_vertices from has_from)
        ∙ (ap (λ xs. place_of same_vertex xs from) (sym more.vertices) ∙ ap (place_of same_vertex later.vertices) start)

    to_place : place_of same_vertex new.keys.vertices to ≡ place_of same_vertex later.vertices (vertex_key ends.end_list ends.end_index)
    to_place = vertex_place mid new.keys later to (ap (λ (k : Keys). k.vertices) keys) more ∙ ap (place_of same_vertex later.vertices) end

    mine : edge_by f later key ≡ record {
      key = key;
      from = record { 0 = place_of same_vertex new.keys.vertices from };
      to = record { 0 = place_of same_vertex new.keys.vertices to };
    } ∷ []
    mine =
        ap (numbered_by later key) (ap (λ (k : EdgeKey). edge_at f (pos k.«list».0) k.index) named ∙ by_key f l (entry_number j) ends at)
        ∙ (ap (λ n. record {
          key = key;
          from = record { 0 = n };
          to =
              record { 0 = place_of same_vertex later.vertices (vertex_key ends.end_list ends.end_index) };
        } ∷ []) (sym from_place)
        ∙ ap (λ n. record { key = key; from = record { 0 = place_of same_vertex new.keys.vertices from }; to = record { 0 = n } } ∷ []) (sym to_place))

    by_test : (t : Bool) → (if t then old.edges else old.edges ++ record {
      key = key;
      from = record { 0 = place_of same_vertex new.keys.vertices from };
      to = record { 0 = place_of same_vertex new.keys.vertices to };
    } ∷ []) ≡ flat_map (edge_by f later) (if t then old.keys.edges else old.keys.edges ++ key ∷ [])
    by_test true = old_edges
    by_test false =
        ap (λ es. es ++ record {
          key = key;
          from = record { 0 = place_of same_vertex new.keys.vertices from };
          to = record { 0 = place_of same_vertex new.keys.vertices to };
        } ∷ []) old_edges
        ∙ (ap (λ es. flat_map (edge_by f later) old.keys.edges ++ es) (sym (mine_last ∙ mine))
        ∙ sym (flat_map-append (edge_by f later) old.keys.edges (key ∷ [])))
      where
        mine_last : flat_map (edge_by f later) (key ∷ []) ≡ edge_by f later key
        mine_last = append-nil (edge_by f later key)

-- The places of a used edge: g is the file behind the lists once the edge was looked at, and l2 and j2 are the numbers as it was given them.
pub ends_fault : {T : Type 0} (r : Result T WalkFault) (w : WalkFault) (f g : Contents) → g ≡ f → (entity : ℤ) (place : ℕ) (l j l2 j2 : ℤ) → l2 ≡ l → j2 ≡ j
    → (key : EdgeKey) (ends : EdgeTuple) → key ≡ edge_key l2 j2
    → edge_at f l2 (entry_number j2) ≡ Some ends → AllHold (item_places f entity place edges l2 j2 (length (told edges f l2)))
    → IsFault (edge_places g (pos key.«list».0) key.index (Some ends)) w → IsErrAnd r (λ v. v ≡ w) → IfErr r (IsFault (used_places f entity place l j false))
ends_fault r w f g same entity place l j l2 j2 a b key ends named at holds h =
    handed (used_places f entity place l j false) r w
    (subst (λ x. IsFault (used_places f entity place l x false) w) b
    (subst (λ x. IsFault (used_places f entity place x j2 false) w) a
    (fault_rest (item_places f entity place edges l2 j2 (length (told edges f l2))) (edge_places f l2 (entry_number j2) (edge_at f l2 (entry_number j2))) w
    holds
    (subst (λ o. IsFault (edge_places f l2 (entry_number j2) o) w) (sym at)
    (subst (λ (k : EdgeKey). IsFault (edge_places f (pos k.«list».0) k.index (Some ends)) w) named
    (subst (λ x. IsFault (edge_places x (pos key.«list».0) key.index (Some ends)) w) same h))))))

pub ends_hold : (f g : Contents) → g ≡ f → (entity : ℤ) (place : ℕ) (l j l2 j2 : ℤ) → l2 ≡ l → j2 ≡ j → (key : EdgeKey) (ends : EdgeTuple)
    → key ≡ edge_key l2 j2 → edge_at f l2 (entry_number j2) ≡ Some ends → AllHold (item_places f entity place edges l2 j2 (length (told edges f l2)))
    → AllHold (edge_places g (pos key.«list».0) key.index (Some ends)) → AllHold (used_places f entity place l j false)
ends_hold f g same entity place l j l2 j2 a b key ends named at holds h =
    subst (λ x. AllHold (used_places f entity place l x false)) b
    (subst (λ x. AllHold (used_places f entity place x j2 false)) a
    (AllHold-append (item_places f entity place edges l2 j2 (length (told edges f l2)))
    (edge_places f l2 (entry_number j2) (edge_at f l2 (entry_number j2))) holds
    (subst (λ o. AllHold (edge_places f l2 (entry_number j2) o)) (sym at)
    (subst (λ (k : EdgeKey). AllHold (edge_places f (pos k.«list».0) k.index (Some ends))) named
    (subst (λ x. AllHold (edge_places x (pos key.«list».0) key.index (Some ends))) same h)))))

pub no_edge : {T : Type 0} (r : Result T WalkFault) (w : WalkFault) (f : Contents) (entity : ℤ) (place : ℕ) (l j l2 j2 : ℤ) → l2 ≡ l → j2 ≡ j
    → IsFault (item_places f entity place edges l2 j2 (length (told edges f l2))) w → IsErrAnd r (λ v. v ≡ w)
    → IfErr r (IsFault (used_places f entity place l j false))
no_edge r w f entity place l j l2 j2 a b h =
    handed (used_places f entity place l j false) r w
    (subst (λ x. IsFault (used_places f entity place l x false) w) b
    (subst (λ x. IsFault (used_places f entity place x j2 false) w) a
    (fault_front (item_places f entity place edges l2 j2 (length (told edges f l2)))
    (edge_places f l2 (entry_number j2) (edge_at f l2 (entry_number j2))) w h)))

-- what is said of the places of a used vertex
pub vertex_moved : (P : List Obligation → Type 0) (f : Contents) (entity : ℤ) (place : ℕ) (l j l2 j2 : ℤ) → l2 ≡ l → j2 ≡ j
    → P (item_places f entity place vertices l2 j2 (length (told vertices f l2))) → P (used_places f entity place l j true)
vertex_moved P f entity place l j l2 j2 a b h =
    subst (λ x. P (used_places f entity place l x true)) b (subst (λ x. P (used_places f entity place x j2 true)) a h)
