-- The places of an edge's curve and of its vertices.
use Rattle.std.specs.Prelude.{◌≡◌, ℕ, ℤ, List, [], ◌∷◌, ◌++◌, length, Some, Result, IsErrAnd, IfErr}
use Rattle.std.proofs.Common.{subst}
use Rattle.iges_params.specs.Contents.{Contents}
use Rattle.brep_lists.specs.declared.entity_kind.EntityKind.TheVariants.{VertexList as vertices}
use Rattle.brep_lists.specs.declared.edge_list.EdgeTuple.{EdgeTuple}
use Rattle.solid_data.specs.Obligations.{Obligation, AllHold, obligation, entry_number}
use Rattle.solid_data.specs.declared.verdict.Rule.TheVariants.{BadGeometry}
use Rattle.solid_data.proofs.ObligationLemmas.{AllHold-append}
use Rattle.brep_walk.specs.declared.fault.WalkFault.{WalkFault}
use Rattle.brep_walk.specs.Places.{told, NamesGeometry, item_places, edge_places}
use Rattle.brep_walk.specs.Walked.{IsFault}
use Rattle.brep_walk.proofs.Faults.{fault_front, fault_rest, handed}

-- an edge is what its parts are
pub edge_is : (e : EdgeTuple) (curve start_list start_index end_list end_index : ℤ) → curve ≡ e.curve → start_list ≡ e.start_list → start_index ≡ e.start_index
    → end_list ≡ e.end_list → end_index ≡ e.end_index
    → record { curve = curve; start_list = start_list; start_index = start_index; end_list = end_list; end_index = end_index } ≡ e
edge_is e curve start_list start_index end_list end_index a b c d h =
    λ k. record { curve = a k; start_list = b k; start_index = c k; end_list = d k; end_index = h k }

-- g is the file behind the lists once the first vertex was looked at, and given the edge as the calls were given it
module _ (f g : Contents) (same : g ≡ f) (entity : ℤ) (place : ℕ) (e given : EdgeTuple) (is : given ≡ e) where
  abbrev curve_place : List Obligation
  curve_place = obligation BadGeometry (entry_number entity) place (NamesGeometry f given.curve) ∷ []

  abbrev start_places : List Obligation
  start_places = item_places f entity place vertices given.start_list given.start_index (length (told vertices f given.start_list))

  abbrev end_places : Contents → List Obligation
  end_places h = item_places h entity place vertices given.end_list given.end_index (length (told vertices h given.end_list))

  front : NamesGeometry f given.curve → AllHold start_places → AllHold (curve_place ++ start_places)
  front curve start = AllHold-append curve_place start_places (curve, tt) start

  pub both_ends : NamesGeometry f given.curve → AllHold start_places → AllHold (end_places g) → AllHold (edge_places f entity place (Some e))
  both_ends curve start end = subst (λ x. AllHold (edge_places f entity place (Some x))) is
      (AllHold-append (curve_place ++ start_places) (end_places f) (front curve start) (subst (λ h. AllHold (end_places h)) same end))

  pub start_fault : {T : Type 0} (r : Result T WalkFault) (w : WalkFault) → NamesGeometry f given.curve → IsFault start_places w → IsErrAnd r (λ v. v ≡ w)
      → IfErr r (IsFault (edge_places f entity place (Some e)))
  start_fault r w curve h = handed (edge_places f entity place (Some e)) r w (subst (λ x. IsFault (edge_places f entity place (Some x)) w) is
      (fault_front (curve_place ++ start_places) (end_places f) w (fault_rest curve_place start_places w (curve, tt) h)))

  pub end_fault : {T : Type 0} (r : Result T WalkFault) (w : WalkFault) → NamesGeometry f given.curve → AllHold start_places → IsFault (end_places g) w
      → IsErrAnd r (λ v. v ≡ w)
      → IfErr r (IsFault (edge_places f entity place (Some e)))
  end_fault r w curve start h = handed (edge_places f entity place (Some e)) r w (subst (λ x. IsFault (edge_places f entity place (Some x)) w) is
      (fault_rest (curve_place ++ start_places) (end_places f) w (front curve start) (subst (λ k. IsFault (end_places k) w) same h)))
