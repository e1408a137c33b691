-- The names of what a tuple owes.
use Rattle.std.specs.Prelude.{◌≡◌, ◌↔◌, IsTrue, ℕ, ℤ, pos, Bool, true, false, List, [], ◌∷◌, ◌++◌, ◌⊎◌, length, All}
use Rattle.std.proofs.Common.{sym, ◌∙◌, subst, inl, inr, ⊎_elim}
use Rattle.iges_params.specs.Contents.{Contents}
use Rattle.brep_lists.specs.Record.{LoopTuple}
use Rattle.brep_lists.specs.declared.entity_kind.EntityKind.{EntityKind}
use Rattle.brep_lists.specs.declared.entity_kind.EntityKind.TheVariants.{EdgeList as edges, VertexList as vertices}
use Rattle.brep_walk.specs.Places.{told, NamesGeometry, HasRecordOf, IsIndex, edge_at, item_places, edge_places, used_places, tuple_at}
use Rattle.solid_data.specs.Obligations.{Obligation, AllHold, FirstFalse, obligation, entry_number}
use Rattle.solid_data.specs.declared.verdict.Failing.{Failing}
use Rattle.solid_data.specs.declared.verdict.Rule.TheVariants.{BadGeometry}
use Rattle.solid_data.proofs.ObligationLemmas.{AllHold-append_left}
use Rattle.record_paths.specs.Searched.{Bears}
use Rattle.record_paths.proofs.Bearing.{bears_left, bears_right, bears_either, first_bears, false_either}

-- what a test that is false tells
pub not_true : {P : Type 0} (b : Bool) → IsTrue b ↔ P → b ≡ false → ¬ P
not_true b both off p = let t : b ≡ true = both.1 p in let g : false ≡ true = sym off ∙ t in absurd cc

-- the same of what a call was given
pub moved : (P : ℤ → ℤ → Type 0) {y z v w : ℤ} → y ≡ z → v ≡ w → P y v → P z w
moved P {y} {z} {v} {w} a b h = subst (λ n. P n w) a (subst (P y) b h)

module _ (f : Contents) (l item : ℕ) (x : Failing) where
  abbrev pub curves_place : List (Bool × ℤ) → List Obligation
  curves_place curves = obligation BadGeometry l item (All (λ (c : Bool × ℤ). NamesGeometry f c.1) curves) ∷ []

  -- what is owed but for the curve and the ends of an edge
  abbrev pub own_places : ℤ → EntityKind → ℤ → ℕ → List (Bool × ℤ) → List Obligation
  own_places list kind index count curves = item_places f (pos l) item kind list index count ++ curves_place curves

  vertex_owned : (list index : ℤ) (curves : List (Bool × ℤ)) (v : Bool) → v ≡ true
      → ¬ Bears (own_places list vertices index (length (told vertices f list)) curves) x
      → ¬ Bears (used_places f (pos l) item list index v ++ curves_place curves) x
  vertex_owned list index curves v e none = subst (λ b. ¬ Bears (used_places f (pos l) item list index b ++ curves_place curves) x) (sym e) none

  abbrev pub edge_owed : ℤ → ℤ → List Obligation
  edge_owed list index = edge_places f list (entry_number index) (edge_at f list (entry_number index))

  abbrev items_owed : ℤ → ℤ → List Obligation
  items_owed list index = item_places f (pos l) item edges list index (length (told edges f list))

  edge_split : (list index : ℤ) (curves : List (Bool × ℤ)) → Bears (used_places f (pos l) item list index false ++ curves_place curves) x
      → Bears (own_places list edges index (length (told edges f list)) curves) x ⊎ Bears (edge_owed list index) x
  edge_split list index curves h =
      ⊎_elim (λ u. ⊎_elim (λ i. inl (bears_left (items_owed list index) (curves_place curves) x i)) inr
      (bears_either (items_owed list index) (edge_owed list index) x u))
      (λ g. inl (bears_right (items_owed list index) (curves_place curves) x g))
      (bears_either (items_owed list index ++ edge_owed list index) (curves_place curves) x h)

  own_bears : (list index : ℤ) (curves : List (Bool × ℤ)) (v : Bool) → ((kind : EntityKind) (count : ℕ) → Bears (own_places list kind index count curves) x)
      → Bears (used_places f (pos l) item list index v ++ curves_place curves) x
  own_bears list index curves true h = h vertices (length (told vertices f list))
  own_bears list index curves false h =
      ⊎_elim (λ i. bears_left (items_owed list index ++ edge_owed list index) (curves_place curves) x
      (bears_left (items_owed list index) (edge_owed list index) x i))
      (λ g. bears_right (items_owed list index ++ edge_owed list index) (curves_place curves) x g)
      (bears_either (items_owed list index) (curves_place curves) x (h edges (length (told edges f list))))

  -- y is the list as a call was given it
  module _ (t : LoopTuple) (y : ℤ) (is : y ≡ t.list) where
    pub tuple_found : ((kind : EntityKind) (index : ℤ) (count : ℕ) (curves : List (Bool × ℤ)) → Bears (own_places y kind index count curves) x)
        → Bears (tuple_at f (pos l) item t) x
    tuple_found h = own_bears t.list t.index t.curves t.is_vertex
        (λ kind count. subst (λ z. Bears (own_places z kind t.index count t.curves) x) is (h kind t.index count t.curves))

    abbrev NotOwn : Type 0
    NotOwn = (kind : EntityKind) (index : ℤ) (count : ℕ) (curves : List (Bool × ℤ)) → ¬ Bears (own_places y kind index count curves) x

    own_none : NotOwn → (kind : EntityKind) (count : ℕ) → ¬ Bears (own_places t.list kind t.index count t.curves) x
    own_none h kind count = subst (λ z. ¬ Bears (own_places z kind t.index count t.curves) x) is (h kind t.index count t.curves)

    pub vertex_none : t.is_vertex ≡ true → NotOwn → ¬ Bears (tuple_at f (pos l) item t) x
    vertex_none e h = vertex_owned t.list t.index t.curves t.is_vertex e (own_none h vertices (length (told vertices f t.list)))

    pub edge_none : t.is_vertex ≡ false → NotOwn → ¬ Bears (edge_owed t.list t.index) x → ¬ Bears (tuple_at f (pos l) item t) x
    edge_none e h none b =
        ⊎_elim (own_none h edges (length (told edges f t.list))) none
        (edge_split t.list t.index t.curves (subst (λ v. Bears (used_places f (pos l) item t.list t.index v ++ curves_place t.curves) x) e b))

    pub edge_found : t.is_vertex ≡ false → Bears (edge_owed t.list t.index) x → Bears (tuple_at f (pos l) item t) x
    edge_found e h = subst (λ v. Bears (used_places f (pos l) item t.list t.index v ++ curves_place t.curves) x) (sym e)
        (bears_left (items_owed t.list t.index ++ edge_owed t.list t.index) (curves_place t.curves) x
        (bears_right (items_owed t.list t.index) (edge_owed t.list t.index) x h))

    -- where there is no such edge, not all holds, and the first false one bears another name
    abbrev NoEdge : Type 0
    NoEdge = HasRecordOf edges f t.list → ¬ IsIndex t.index (length (told edges f t.list))

    items_bad : NoEdge → ¬ AllHold (items_owed t.list t.index)
    items_bad bad i = bad i.1.1.0 i.1.1.1.0

    pub edge_bad : t.is_vertex ≡ false → NoEdge → ¬ AllHold (tuple_at f (pos l) item t)
    edge_bad e bad all =
        let u = AllHold-append_left (items_owed t.list t.index ++ edge_owed t.list t.index) (curves_place t.curves)
        (subst (λ v. AllHold (used_places f (pos l) item t.list t.index v ++ curves_place t.curves)) e all) in
        items_bad bad (AllHold-append_left (items_owed t.list t.index) (edge_owed t.list t.index) u)

    pub edge_lost : t.is_vertex ≡ false → NotOwn → NoEdge → ¬ FirstFalse (tuple_at f (pos l) item t) x
    edge_lost e h bad first =
        let own : FirstFalse (items_owed t.list t.index) x
        → ⊥ = λ i. own_none h edges (length (told edges f t.list))
        (bears_left (items_owed t.list t.index) (curves_place t.curves) x (first_bears (items_owed t.list t.index) x i)) in
        ⊎_elim (λ u. ⊎_elim own (λ q. items_bad bad q.0) (false_either (items_owed t.list t.index) (edge_owed t.list t.index) x u))
        (λ q. items_bad bad (AllHold-append_left (items_owed t.list t.index) (edge_owed t.list t.index) q.0))
        (false_either (items_owed t.list t.index ++ edge_owed t.list t.index) (curves_place t.curves) x
        (subst (λ v. FirstFalse (used_places f (pos l) item t.list t.index v ++ curves_place t.curves) x) e first))
