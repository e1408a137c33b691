-- The solid that a walk has numbered.
use Rattle.std.specs.Prelude.{◌≡◌, ℕ, ℤ, pos, Bool, List, [], ◌∷◌, ◌++◌, map, flat_map, Result, IsErrAnd, IfErr}
use Rattle.std.proofs.Common.{refl, sym, ◌∙◌, ap, subst}
use Rattle.std.proofs.lemmas.List.{append-nil}
use Rattle.std.proofs.lemmas.Grind.{flat_map-append}
use Rattle.iges_params.specs.Contents.{Contents}
use Rattle.brep_lists.specs.Record.{SolidItems, LoopTuple}
use Rattle.brep_lists.specs.declared.entity_kind.EntityKind.TheVariants.{Solid as solid}
use Rattle.solid_data.specs.Obligations.{AllHold, after_each}
use Rattle.solid_data.specs.Ring.{distinct}
use Rattle.solid_data.specs.SolidData.{same_edge, same_vertex}
use Rattle.iges_base.specs.declared.entry_no.EntryNo.{EntryNo}
use Rattle.solid_data.specs.declared.solid.Edge.{Edge}
use Rattle.solid_data.specs.declared.solid.Shell.{Shell}
use Rattle.solid_data.specs.declared.solid.VertexKey.{VertexKey}
use Rattle.solid_data.proofs.ObligationLemmas.{AllHold-append}
use Rattle.brep_walk.specs.declared.fault.WalkFault.{WalkFault}
use Rattle.brep_numbering.specs.Numbered.{Numbered}
use Rattle.brep_walk.specs.Numbered.{Extends, IsMadeBy, AreEdges, keys_after, face_tuples, shell_tuples}
use Rattle.brep_walk.specs.Places.{told, shells, faces, loops, tuples, numbers, record_places, shell_places, places}
use Rattle.brep_numbering.specs.Keys.{Keys}
use Rattle.brep_walk.specs.SolidOf.{edge_named, vertices_named, all_tuples, edge_keys, keys_of, shell_by, shell_of, edge_by, edge_of, solid_of}
use Rattle.brep_walk.specs.Walked.{IsFault}
use Rattle.brep_walk.proofs.Distinct.{insert_all-distinct}
use Rattle.brep_walk.proofs.Faults.{fault_front, fault_rest, handed}
use Rattle.brep_numbering.proofs.SameKeys.{vertex_sound, vertex_itself}
use Rattle.brep_numbering.proofs.SameKeys.{edge_sound, edge_itself}

-- The tuples of all shells are all tuples.

pub tuples_of_faces : (f : Contents) (items : List (ℤ × Bool)) → flat_map (face_tuples f) items ≡ flat_map (tuples f) (flat_map (loops f) (numbers items))
tuples_of_faces f [] = refl
tuples_of_faces f (item ∷ items) =
    ap (λ ts. face_tuples f item ++ ts) (tuples_of_faces f items) ∙ sym (flat_map-append (tuples f) (loops f item.0) (flat_map (loops f) (numbers items)))

tuples_of_shells : (f : Contents) (items : List (ℤ × Bool))
    → flat_map (shell_tuples f) items ≡ flat_map (tuples f) (flat_map (loops f) (flat_map (λ s. numbers (faces f s)) (numbers items)))
tuples_of_shells f [] = refl
tuples_of_shells f (item ∷ items) =
    let mine : List ℤ = numbers (faces f item.0) in
    let rest : List ℤ = flat_map (λ s. numbers (faces f s)) (numbers items) in
    ap (λ ts. shell_tuples f item ++ ts) (tuples_of_shells f items)
    ∙ (ap (λ ts. ts ++ flat_map (tuples f) (flat_map (loops f) rest)) (tuples_of_faces f (faces f item.0))
    ∙ (sym (flat_map-append (tuples f) (flat_map (loops f) mine) (flat_map (loops f) rest))
    ∙ sym (ap (flat_map (tuples f)) (flat_map-append (loops f) mine rest))))

-- the keys of tuples that come first are those that they name, without repeats
pub first_keys : (f : Contents) (ts : List LoopTuple) → keys_after f (record { edges = []; vertices = [] }) ts
    ≡ record { edges = distinct same_edge (flat_map edge_named ts); vertices = distinct same_vertex (flat_map (vertices_named f) ts) }
first_keys f ts = λ j. record {
  edges = insert_all-distinct same_edge edge_sound edge_itself (flat_map edge_named ts) j;
  vertices = insert_all-distinct same_vertex vertex_sound vertex_itself (flat_map (vertices_named f) ts) j;
}

all_keys : (f : Contents) (n : ℤ) (start : Keys) → start ≡ record { edges = []; vertices = [] } → keys_after f start (flat_map (shell_tuples f) (shells f n))
    ≡ keys_of f n
all_keys f n start none =
    ap (λ k. keys_after f k (flat_map (shell_tuples f) (shells f n))) none
    ∙ (ap (keys_after f (record { edges = []; vertices = [] })) (tuples_of_shells f (shells f n)) ∙ first_keys f (all_tuples f n))

pub Extends-itself : (keys : Keys) → Extends keys keys
Extends-itself keys = record { more_edges = []; edges = sym (append-nil keys.edges); more_vertices = []; vertices = sym (append-nil keys.vertices) }

-- y is the number as the record was opened with it, and items what the record tells
module _ (f : Contents) (n : ℕ) (y : ℤ) (same : y ≡ pos n) where
  pub no_solid : {T : Type 0} (r : Result T WalkFault) (w : WalkFault) → IsFault (record_places f (pos n) 0 solid y) w → IsErrAnd r (λ e. e ≡ w)
      → IfErr r (IsFault (places f n))
  unfolding places
  no_solid r w h = handed (places f n) r w
      (fault_front (record_places f (pos n) 0 solid (pos n)) (after_each (shell_places f (pos n)) [] (shells f (pos n))) w
      (subst (λ z. IsFault (record_places f (pos n) 0 solid z) w) same h))

  module _ (items : SolidItems) (is : items ≡ told solid f y) where
    listed : items.outer ∷ items.voids ≡ shells f (pos n)
    listed = ap (λ (s : SolidItems). s.outer ∷ s.voids) is ∙ ap (shells f) same

    -- g is the file behind the lists, and m the entry that the number names
    module _ (g : Contents) (file : g ≡ f) (m : ℕ) (named : y ≡ pos m) where
      entity : pos m ≡ pos n
      entity = sym named ∙ same

      pub shells_fault : {T : Type 0} (r : Result T WalkFault) (w : WalkFault) → AllHold (record_places f (pos n) 0 solid y)
          → IsFault (after_each (shell_places g (pos m)) [] (items.outer ∷ items.voids)) w
          → IsErrAnd r (λ e. e ≡ w) → IfErr r (IsFault (places f n))
      unfolding places
      shells_fault r w holds h = handed (places f n) r w
          (fault_rest (record_places f (pos n) 0 solid (pos n)) (after_each (shell_places f (pos n)) [] (shells f (pos n))) w
          (subst (λ z. AllHold (record_places f (pos n) 0 solid z)) same holds)
          (subst (λ l. IsFault (after_each (shell_places f (pos n)) [] l) w) listed
          (subst (λ z. IsFault (after_each (shell_places f z) [] (items.outer ∷ items.voids)) w) entity
          (subst (λ k. IsFault (after_each (shell_places k (pos m)) [] (items.outer ∷ items.voids)) w) file h))))

      pub shells_hold : AllHold (record_places f (pos n) 0 solid y) → AllHold (after_each (shell_places g (pos m)) [] (items.outer ∷ items.voids))
          → AllHold (places f n)
      unfolding places
      shells_hold holds h =
          AllHold-append (record_places f (pos n) 0 solid (pos n)) (after_each (shell_places f (pos n)) [] (shells f (pos n)))
          (subst (λ z. AllHold (record_places f (pos n) 0 solid z)) same holds)
          (subst (λ l. AllHold (after_each (shell_places f (pos n)) [] l)) listed
          (subst (λ z. AllHold (after_each (shell_places f z) [] (items.outer ∷ items.voids))) entity
          (subst (λ k. AllHold (after_each (shell_places k (pos m)) [] (items.outer ∷ items.voids))) file h)))

      module _ (start keys : Keys) (none : start ≡ record { edges = []; vertices = [] })
          (after : keys ≡ keys_after g start (flat_map (shell_tuples g) (items.outer ∷ items.voids))) where
        pub keys_whole : keys ≡ keys_of f (pos n)
        keys_whole =
            after ∙ (ap (λ k. keys_after k start (flat_map (shell_tuples k) (items.outer ∷ items.voids))) file
            ∙ (ap (λ l. keys_after f start (flat_map (shell_tuples f) l)) listed ∙ all_keys f (pos n) start none))

        pub shells_whole : (made : List Shell) → IsMadeBy keys (λ k. map (shell_by g k) (items.outer ∷ items.voids)) made
            → made ≡ map (shell_of f (pos n)) (shells f (pos n))
        shells_whole made h =
            h keys (Extends-itself keys) ∙ (ap (λ k. map (shell_by k keys) (items.outer ∷ items.voids)) file
            ∙ (ap (map (shell_by f keys)) listed ∙ ap (λ k. map (shell_by f k) (shells f (pos n))) keys_whole))

        pub edges_whole : (numbered : Numbered) → numbered.keys ≡ keys → AreEdges g numbered
            → numbered.edges ≡ flat_map (edge_of f (pos n)) (edge_keys f (pos n))
        edges_whole numbered is_keys h =
            h numbered.keys (Extends-itself numbered.keys) ∙ (ap (λ k. flat_map (edge_by k numbered.keys) numbered.keys.edges) file
            ∙ ap (λ (k : Keys). flat_map (edge_by f k) k.edges) (is_keys ∙ keys_whole))

-- the parts of the solid
pub solid_is : (f : Contents) (entry : EntryNo) (made : List Shell) (edges : List Edge) (vertices : List VertexKey) (numbered : Numbered)
    → made ≡ map (shell_of f (pos entry.0)) (shells f (pos entry.0))
    → edges ≡ numbered.edges → numbered.edges ≡ flat_map (edge_of f (pos entry.0)) (edge_keys f (pos entry.0)) → vertices ≡ numbered.keys.vertices
    → numbered.keys ≡ keys_of f (pos entry.0)
    → record { entity = entry; shells = made; edges = edges; vertices = vertices } ≡ solid_of f entry.0
unfolding solid_of
solid_is f entry made edges vertices numbered a b c d e =
    λ j. record { entity = entry; shells = a j; edges = (b ∙ c) j; vertices = (d ∙ ap (λ (k : Keys). k.vertices) e) j }
