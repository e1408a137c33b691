-- Lists that are kept.
use Rattle.std.specs.Prelude.{◌≡◌, ◌<◌, ◌^◌, ◌-◌, ℕ, ℤ, pos, List, [], ◌∷◌, ◌++◌, length, slice_get, Some, Result, Ok, Err, IsErrAnd, IfErr}
use Rattle.std.proofs.Common.{sym, ◌∙◌, ap, subst, inl, ⊎_elim}
use Rattle.iges_base.specs.declared.entry_no.EntryNo.{EntryNo}
use Rattle.iges_params.specs.Contents.{Contents}
use Rattle.brep_lists.specs.declared.edge_list.EdgeTuple.{EdgeTuple}
use Rattle.brep_lists.specs.Record.{Items}
use Rattle.brep_lists.specs.declared.entity_kind.EntityKind.{EntityKind}
use Rattle.brep_lists.specs.declared.entity_kind.EntityKind.TheVariants.{EdgeList as edges, VertexList as vertices}
use Rattle.solid_data.specs.Obligations.{AllHold, FirstFalse, obligation, entry_number}
use Rattle.solid_data.specs.declared.verdict.Failing.{Failing}
use Rattle.solid_data.specs.declared.verdict.Rule.TheVariants.{BadIndex}
use Rattle.solid_data.proofs.ObligationLemmas.{AllHold-append, FirstFalse-append_rest}
use Rattle.brep_walk.specs.declared.fault.WalkFault.{WalkFault}
use Rattle.brep_walk.specs.declared.fault.WalkFault.TheVariants.{Fails}
use Rattle.brep_walk.specs.Kept.{AreKept, NamesRecord, IsEdgeList, IsVertexList}
use Rattle.brep_numbering.specs.Keys.{Keys}
use Rattle.brep_walk.specs.NamedEdges.{IsNamedEdge}
use Rattle.brep_walk.specs.declared.naming.NamedEdge.{NamedEdge}
use Rattle.brep_walk.specs.Places.{told, edge_at, IsIndex, record_places, item_places}
use Rattle.brep_walk.specs.SolidOf.{edge_key, vertex_key}
use Rattle.brep_walk.specs.Walked.{IsFault}
use Rattle.brep_walk.proofs.Faults.{fault_front, handed}
use Rattle.brep_numbering.proofs.Pushed.{get_pushed}

-- A list that is found is kept. g is the file as the call was given it, and y the number.

pub kept_edges : (f g : Contents) → f ≡ g → (es : List (EntryNo × List EdgeTuple)) (vs : List (EntryNo × ℕ)) → AreKept f es vs → (z y : ℤ) → y ≡ z
    → (v : EntryNo × List EdgeTuple)
    → (y ≡ pos v.0.0) × ((i : ℕ) × (slice_get es i ≡ Some v)) → IsEdgeList g z v
kept_edges f g file es vs all z y at v h =
    subst (λ h. IsEdgeList h z v) file (subst (λ x. IsEdgeList f x v) (sym h.0 ∙ at) (all.edges h.1.0 v h.1.1))

pub kept_vertices : (f g : Contents) → f ≡ g → (es : List (EntryNo × List EdgeTuple)) (vs : List (EntryNo × ℕ)) → AreKept f es vs → (z y : ℤ) → y ≡ z
    → (v : EntryNo × ℕ)
    → (y ≡ pos v.0.0) × ((i : ℕ) × (slice_get vs i ≡ Some v)) → IsVertexList g z v
kept_vertices f g file es vs all z y at v h =
    subst (λ h. IsVertexList h z v) file (subst (λ x. IsVertexList f x v) (sym h.0 ∙ at) (all.vertices h.1.0 v h.1.1))

-- One more list is kept.

pub more_edges : (f : Contents) (es new : List (EntryNo × List EdgeTuple)) (vs : List (EntryNo × ℕ)) → AreKept f es vs → (v : EntryNo × List EdgeTuple)
    → new ≡ es ++ v ∷ [] → IsEdgeList f (pos v.0.0) v
    → AreKept f new vs
more_edges f es new vs all v is put = subst (λ l. AreKept f l vs) (sym is) (record {
  edges = λ i kept at. ⊎_elim (all.edges i kept) (λ last. subst (λ (w : EntryNo × List EdgeTuple). IsEdgeList f (pos w.0.0) w) last.1 put)
      (get_pushed es v kept i at);
  vertices = all.vertices;
})

pub more_vertices : (f : Contents) (es : List (EntryNo × List EdgeTuple)) (vs new : List (EntryNo × ℕ)) → AreKept f es vs → (v : EntryNo × ℕ)
    → new ≡ vs ++ v ∷ [] → IsVertexList f (pos v.0.0) v → AreKept f es new
more_vertices f es vs new all v is put = subst (λ l. AreKept f es l) (sym is) (record {
  edges = all.edges;
  vertices = λ i kept at. ⊎_elim (all.vertices i kept) (λ last. subst (λ (w : EntryNo × ℕ). IsVertexList f (pos w.0.0) w) last.1 put)
      (get_pushed vs v kept i at);
})

-- A list that was opened may be kept, by its entry.

pub edge_list_kept : (f : Contents) (y : ℤ) (entry : EntryNo) (list : Items edges) → NamesRecord edges f y → y ≡ pos entry.0 → list ≡ told edges f y
    → length list < 2 ^ 31 → IsEdgeList f (pos entry.0) (entry, list)
edge_list_kept f y entry list holds number is few =
    subst (λ x. IsEdgeList f x (entry, list)) number (record { number = number; holds = holds; items = is; few = few })

pub vertex_list_kept : (f : Contents) (y : ℤ) (entry : EntryNo) (n : ℕ) → NamesRecord vertices f y → y ≡ pos entry.0 → (list : Items vertices)
    → list ≡ told vertices f y → n ≡ length list → IsVertexList f (pos entry.0) (entry, n)
vertex_list_kept f y entry n holds number list is count =
    subst (λ x. IsVertexList f x (entry, n)) number (record { number = number; holds = holds; count = count ∙ ap (λ (l : Items vertices). length l) is })

-- An index in a kept list. k is the index as a call was given it.
module _ (f : Contents) (z : ℤ) (v : EntryNo × List EdgeTuple) (kept : IsEdgeList f z v) (entity : ℤ) (place : ℕ) (j k : ℤ) (same : k ≡ j) where
  counted : (IsIndex k (length v.1) → IsIndex j (length (told edges f z))) × (IsIndex j (length (told edges f z)) → IsIndex k (length v.1))
  counted =
      let items : length v.1 ≡ length (told edges f z) = ap (λ (l : List EdgeTuple). length l) kept.items in (
        (λ h. subst (λ n. IsIndex j n) items (subst (λ x. IsIndex x (length v.1)) same h)),
        (λ h. subst (λ n. IsIndex k n) (sym items) (subst (λ x. IsIndex x (length (told edges f z))) (sym same) h)),
      )

  pub kept_holds : IsIndex k (length v.1) → AllHold (item_places f entity place edges z j (length (told edges f z)))
  kept_holds h = AllHold-append (record_places f entity place edges z)
      (obligation BadIndex (entry_number entity) place (IsIndex j (length (told edges f z))) ∷ []) kept.holds (counted.0 h, tt)

  pub kept_fails : {T : Type 0} (r : Result T WalkFault) (x : Failing)
      → FirstFalse (obligation BadIndex (entry_number entity) place (IsIndex k (length v.1)) ∷ []) x → IsErrAnd r (λ e. e ≡ Fails x)
      → IfErr r (IsFault (item_places f entity place edges z j (length (told edges f z))))
  kept_fails (Ok t) x h e = tt
  kept_fails (Err w) x h e =
      subst (IsFault (item_places f entity place edges z j (length (told edges f z)))) (sym e)
      (FirstFalse-append_rest (record_places f entity place edges z)
      (obligation BadIndex (entry_number entity) place (IsIndex j (length (told edges f z))) ∷ []) x kept.holds
      (⊎_elim (λ bad. inl ((λ i. bad.0 (counted.1 i)), bad.1)) (λ more. absurd more.1) h))

  pub kept_edge : (keys : Keys) (e : NamedEdge)
      → IsNamedEdge keys (record { «list» = v.0; index = entry_number k }) (slice_get v.1 (entry_number k - 1)) e
      → IsNamedEdge keys (edge_key z j) (edge_at f z (entry_number j)) e
  kept_edge keys e h =
      subst (λ x. IsNamedEdge keys x (edge_at f z (entry_number j)) e)
      (ap (λ n. record { «list» = v.0; index = entry_number n }) same
      ∙ ap (λ n. record { «list» = record { 0 = entry_number n }; index = entry_number j }) (sym kept.number))
      (subst (λ x. IsNamedEdge keys (record { «list» = v.0; index = entry_number k }) x e)
      (ap (λ n. slice_get v.1 (entry_number n - 1)) same ∙ ap (λ l. slice_get l (entry_number j - 1)) kept.items) h)

-- A list as it was opened. y is its number as a call was given it.

pub opened_edges : (f : Contents) (z y : ℤ) → y ≡ z → (entry : EntryNo) (list : Items edges) → NamesRecord edges f y → y ≡ pos entry.0 → list ≡ told edges f y
    → length list < 2 ^ 31 → IsEdgeList f z (entry, list)
opened_edges f z y same entry list holds number is few =
    subst (λ x. IsEdgeList f x (entry, list)) same (record { number = number; holds = holds; items = is; few = few })

pub no_list : (kind : EntityKind) {T : Type 0} (r : Result T WalkFault) (w : WalkFault) (f : Contents) (entity : ℤ) (place : ℕ) (z y j : ℤ) (count : ℕ) → y ≡ z
    → IsFault (record_places f entity place kind y) w → IsErrAnd r (λ e. e ≡ w) → IfErr r (IsFault (item_places f entity place kind z j count))
no_list kind r w f entity place z y j count same h = handed (item_places f entity place kind z j count) r w
    (subst (λ x. IsFault (item_places f entity place kind x j count) w) same
    (fault_front (record_places f entity place kind y) (obligation BadIndex (entry_number entity) place (IsIndex j count) ∷ []) w h))

-- An index in a vertex list. k is the index as a call was given it.
module _ (f : Contents) (z y : ℤ) (at : y ≡ z) (v : EntryNo × ℕ) (kept : IsVertexList f y v) (entity : ℤ) (place : ℕ) (j k : ℤ) (same : k ≡ j) where
  list_named : IsVertexList f z v
  list_named = subst (λ x. IsVertexList f x v) at kept

  pub vertex_holds : IsIndex k v.1 → AllHold (item_places f entity place vertices z j (length (told vertices f z)))
  vertex_holds h = AllHold-append (record_places f entity place vertices z)
      (obligation BadIndex (entry_number entity) place (IsIndex j (length (told vertices f z))) ∷ []) list_named.holds
      (subst (λ n. IsIndex j n) list_named.count (subst (λ x. IsIndex x v.1) same h), tt)

  pub vertex_fails : {T : Type 0} (r : Result T WalkFault) (x : Failing)
      → FirstFalse (obligation BadIndex (entry_number entity) place (IsIndex k v.1) ∷ []) x → IsErrAnd r (λ e. e ≡ Fails x)
      → IfErr r (IsFault (item_places f entity place vertices z j (length (told vertices f z))))
  vertex_fails (Ok t) x h e = tt
  vertex_fails (Err w) x h e =
      subst (IsFault (item_places f entity place vertices z j (length (told vertices f z)))) (sym e)
      (FirstFalse-append_rest (record_places f entity place vertices z)
      (obligation BadIndex (entry_number entity) place (IsIndex j (length (told vertices f z))) ∷ []) x list_named.holds
      (⊎_elim (λ bad. inl (
        (λ i. bad.0 (subst (λ n. IsIndex k n) (sym list_named.count) (subst (λ q. IsIndex q (length (told vertices f z))) (sym same) i))),
        bad.1,
      )) (λ more. absurd more.1) h))

  pub vertex_is : (i : ℕ) → k ≡ pos i → record { «list» = v.0; index = i } ≡ vertex_key z j
  vertex_is i is = λ t. record { «list» = record { 0 = entry_number ((sym kept.number ∙ at) t) }; index = entry_number ((sym is ∙ same) t) }
