-- The solid that is one shell.
use Rattle.std.specs.Prelude.{◌≡◌, ℕ, ℤ, pos, Bool, true, List, [], ◌∷◌, ◌++◌, map, flat_map, Result, Ok, Err, IsErrAnd, IfErr}
use Rattle.std.proofs.Common.{sym, ◌∙◌, ap, subst, inl, inr}
use Rattle.std.proofs.lemmas.List.{append-nil}
use Rattle.iges_fields.specs.declared.value.Value.{Value}
use Rattle.iges_base.specs.declared.entry_no.EntryNo.{EntryNo}
use Rattle.iges_params.specs.Contents.{Contents}
use Rattle.iges_params.specs.Limits.{FitsLimits}
use Rattle.iges_params.specs.Named.{named, values_of}
use Rattle.brep_lists.specs.Record.{Items, items_of, Fits}
use Rattle.brep_lists.specs.declared.entity_kind.EntityKind.TheVariants.{Shell as shell}
use Rattle.solid_data.specs.Numbering.{IsNumberedSolid}
use Rattle.solid_data.specs.Obligations.{obligation, AllHold, FirstFalse, after_each}
use Rattle.solid_data.specs.declared.solid.Edge.{Edge}
use Rattle.solid_data.specs.declared.solid.FaceUse.{FaceUse}
use Rattle.solid_data.specs.declared.solid.Shell.{Shell}
use Rattle.solid_data.specs.declared.solid.VertexKey.{VertexKey}
use Rattle.solid_data.specs.declared.verdict.Failing.{Failing}
use Rattle.solid_data.specs.declared.verdict.Rule.TheVariants.{BadLayout}
use Rattle.solid_data.proofs.Members.{Has}
use Rattle.solid_data.proofs.ObligationLemmas.{AllHold-append, AllHold-append_right, FirstFalse-append_front}
use Rattle.brep_walk.specs.declared.fault.WalkFault.{WalkFault}
use Rattle.brep_walk.specs.declared.fault.WalkFault.TheVariants.{Fails}
use Rattle.brep_numbering.specs.Numbered.{Numbered}
use Rattle.brep_walk.specs.Numbered.{IsMadeBy, AreEdges, keys_after, face_tuples}
use Rattle.brep_walk.specs.OneShell.{shell_keys, shell_faces, shell_edges}
use Rattle.brep_walk.specs.OpenPlaces.{shell_entry_places, shell_record_places, open_places, shell_solid_of}
use Rattle.brep_walk.specs.Places.{HasRecordOf, Names, faces, loops, tuples, numbers, face_places}
use Rattle.brep_numbering.specs.Keys.{Keys}
use Rattle.brep_walk.specs.SolidOf.{face_by, edge_by, tuples_in, keys_in, solid_listing}
use Rattle.brep_walk.specs.Stands.{Stands}
use Rattle.brep_walk.specs.Walked.{IsFault}
use Rattle.brep_walk.specs.Walks.{Begins}
use Rattle.brep_walk.specs.declared.state.WalkState.{WalkState}
use Rattle.brep_walk.proofs.Faults.{fault_front, fault_rest, handed, handed_failing}
use Rattle.brep_walk.proofs.Few.{listing_has_few_parts}
use Rattle.brep_walk.proofs.Found.{AreListed, listing_is_numbered, of_item}
use Rattle.brep_walk.proofs.Fresh.{Fresh, faces_in, loops_of_faces}
use Rattle.brep_walk.proofs.Opened.{record_of, no_record}
use Rattle.brep_walk.proofs.WholeSolid.{tuples_of_faces, first_keys, Extends-itself}

-- The record.

module _ (f : Contents) (n : ℕ) where
  pub shell_opened : (vs : List Value) (items : List (ℤ × Bool)) → AllHold (shell_entry_places f n) → vs ≡ values_of f (pos n) → Fits shell vs items
      → items ≡ items_of shell vs → AllHold (shell_record_places f n)
  shell_opened vs items all at fits read =
      (all.0, (all.1.0, (record_of shell (named f (pos n)) all.0 items (subst (λ ws. Fits shell ws items) at fits) (read ∙ ap (items_of shell) at), tt)))

  pub shell_not_opened : (vs : List Value) (x : Failing) → AllHold (shell_entry_places f n) → vs ≡ values_of f (pos n)
      → ((items : Items shell) → ¬ Fits shell vs items)
      → x ≡ record { rule = BadLayout; entity = record { 0 = n }; place = 0 } → FirstFalse (shell_record_places f n) x
  shell_not_opened vs x all at none made =
      inr (all.0, inr (all.1.0, inl (no_record shell (named f (pos n)) (λ items fits. none items (subst (λ ws. Fits shell ws items) (sym at) fits)), made)))

  pub not_a_shell : {T : Type 0} (r : Result T Failing) (x : Failing) → FirstFalse (shell_entry_places f n) x → IsErrAnd r (λ e. e ≡ x)
      → IfErr r (FirstFalse (shell_record_places f n))
  not_a_shell (Ok v) x h e = tt
  not_a_shell (Err w) x h e =
      subst (FirstFalse (shell_record_places f n)) (sym e)
      (FirstFalse-append_front (shell_entry_places f n) (obligation BadLayout n 0 (HasRecordOf shell f (pos n)) ∷ []) x h)

  pub no_shell_record : {T : Type 0} (r : Result T WalkFault) (x : Failing) → FirstFalse (shell_record_places f n) x → IsErrAnd r (λ e. e ≡ Fails x)
      → IfErr r (IsFault (open_places f n))
  unfolding open_places
  no_shell_record r x h =
      handed_failing (open_places f n) r x (fault_front (shell_record_places f n) (after_each (face_places f (pos n) []) [] (faces f (pos n))) (Fails x) h)

-- The faces: g is the file behind the lists, and used the faces that were named before.

module _ (f : Contents) (n : ℕ) (listed : List (ℤ × Bool)) (is : listed ≡ faces f (pos n)) (g : Contents) (file : g ≡ f) where
  abbrev one : List (ℤ × Bool)
  one = (pos n, true) ∷ []

  module _ (used : List ℤ) (none : used ≡ []) where
    pub faces_fault : {T : Type 0} (r : Result T WalkFault) (w : WalkFault) → AllHold (shell_record_places f n)
        → IsFault (after_each (face_places g (pos n) used) [] listed) w → IsErrAnd r (λ e. e ≡ w) → IfErr r (IsFault (open_places f n))
    unfolding open_places
    faces_fault r w holds h = handed (open_places f n) r w
        (fault_rest (shell_record_places f n) (after_each (face_places f (pos n) []) [] (faces f (pos n))) w holds
        (subst (λ l. IsFault (after_each (face_places f (pos n) []) [] l) w) is
        (subst (λ u. IsFault (after_each (face_places f (pos n) u) [] listed) w) none
        (subst (λ k. IsFault (after_each (face_places k (pos n) used) [] listed) w) file h))))

    pub faces_hold_all : AllHold (shell_record_places f n) → AllHold (after_each (face_places g (pos n) used) [] listed) → AllHold (open_places f n)
    unfolding open_places
    faces_hold_all holds h =
        AllHold-append (shell_record_places f n) (after_each (face_places f (pos n) []) [] (faces f (pos n))) holds
        (subst (λ l. AllHold (after_each (face_places f (pos n) []) [] l)) is
        (subst (λ u. AllHold (after_each (face_places f (pos n) u) [] listed)) none
        (subst (λ k. AllHold (after_each (face_places k (pos n) used) [] listed)) file h)))

  -- the tuples of the one shell are those of its faces
  tuples_of_one : flat_map (face_tuples f) (faces f (pos n)) ≡ tuples_in f one
  tuples_of_one = tuples_of_faces f (faces f (pos n)) ∙ ap (λ cs. flat_map (tuples f) (flat_map (loops f) cs)) (sym (append-nil (numbers (faces f (pos n)))))

  module _ (start keys : Keys) (none : start ≡ record { edges = []; vertices = [] }) (after : keys ≡ keys_after g start (flat_map (face_tuples g) listed)) where
    keys_same : keys ≡ keys_in f one
    keys_same =
        after ∙ (ap (λ k. keys_after k start (flat_map (face_tuples k) listed)) file
        ∙ (ap (λ l. keys_after f start (flat_map (face_tuples f) l)) is
        ∙ (ap (λ k. keys_after f k (flat_map (face_tuples f) (faces f (pos n)))) none
        ∙ (ap (keys_after f (record { edges = []; vertices = [] })) tuples_of_one ∙ first_keys f (tuples_in f one)))))

    pub keys_whole : keys ≡ shell_keys f n
    unfolding shell_keys
    keys_whole = keys_same

    pub faces_whole : (made : List FaceUse) → IsMadeBy keys (λ k. map (face_by g k) listed) made → made ≡ shell_faces f n
    unfolding shell_faces
    faces_whole made h =
        h keys (Extends-itself keys) ∙ (ap (λ k. map (face_by k keys) listed) file
        ∙ (ap (map (face_by f keys)) is ∙ ap (λ k. map (face_by f k) (faces f (pos n))) keys_same))

    pub edges_whole : (numbered : Numbered) → numbered.keys ≡ keys → AreEdges g numbered → numbered.edges ≡ shell_edges f n
    unfolding shell_edges
    edges_whole numbered is_keys h =
        h numbered.keys (Extends-itself numbered.keys) ∙ (ap (λ k. flat_map (edge_by k numbered.keys) numbered.keys.edges) file
        ∙ ap (λ (k : Keys). flat_map (edge_by f k) k.edges) (is_keys ∙ keys_same))

-- The solid.

pub shell_solid_is : (f : Contents) (entry : EntryNo) (made : List FaceUse) (shells : List Shell) → shells ≡ [] → (pushed : List Shell)
    → pushed ≡ shells ++ record { entity = entry; flag = true; faces = made } ∷ []
    → made ≡ shell_faces f entry.0 → (edges : List Edge) (vertices : List VertexKey) (numbered : Numbered) → edges ≡ numbered.edges
    → numbered.edges ≡ shell_edges f entry.0 → vertices ≡ numbered.keys.vertices → numbered.keys ≡ shell_keys f entry.0
    → record { entity = entry; shells = pushed; edges = edges; vertices = vertices } ≡ shell_solid_of f entry.0
unfolding solid_listing shell_keys shell_faces shell_edges
shell_solid_is f entry made shells first pushed a faces_are edges vertices numbered b c d e = λ j. record {
  entity = entry;
  shells = (a ∙ ap (λ hs. hs ++ record { entity = entry; flag = true; faces = made } ∷ []) first
      ∙ ap (λ cs. record { entity = entry; flag = true; faces = cs } ∷ []) faces_are) j;
  edges = (b ∙ c) j;
  vertices = (d ∙ ap (λ (k : Keys). k.vertices) e) j;
}

listed_shell : (f : Contents) (n : ℕ) → AllHold (open_places f n) → AreListed f ((pos n, true) ∷ [])
unfolding open_places
listed_shell f n all item (inr h) = absurd h
listed_shell f n all item (inl same) =
    let hold = AllHold-append_right (shell_record_places f n) (after_each (face_places f (pos n) []) [] (faces f (pos n))) all in
    subst (λ (i : ℤ × Bool). HasRecordOf shell f i.0
    × ((c : ℤ × Bool) → Has (faces f i.0) c → (u : List ℤ) × (d : List (ℤ × Bool)) × AllHold (face_places f i.0 u d c))) same
    (all.1.1.0, λ c m. let k = of_item (face_places f (pos n) []) [] (faces f (pos n)) c hold m in ([], k.0, k.1))

shell_named : (f : Contents) (n : ℕ) → AllHold (open_places f n) → Names f (pos n)
unfolding open_places
shell_named f n all = all.0

-- no loop is listed twice
shell_fresh : (f : Contents) (n : ℕ) → AllHold (open_places f n) → Fresh [] (flat_map (loops f) (faces_in f ((pos n, true) ∷ [])))
unfolding open_places
shell_fresh f n all =
    subst (λ cs. Fresh [] (flat_map (loops f) cs)) (sym (append-nil (numbers (faces f (pos n)))))
    (loops_of_faces f (pos n) [] [] (faces f (pos n))
    (AllHold-append_right (shell_record_places f n) (after_each (face_places f (pos n) []) [] (faces f (pos n))) all))

pub shell_is_numbered : (f : Contents) (n : ℕ) → FitsLimits f → AllHold (open_places f n) → IsNumberedSolid (shell_solid_of f n)
shell_is_numbered f n limits all =
    let held : AreListed f ((pos n, true) ∷ []) = listed_shell f n all in
    listing_is_numbered f n ((pos n, true) ∷ []) held (listing_has_few_parts f n ((pos n, true) ∷ []) limits (shell_named f n all) held (shell_fresh f n all))

-- a walk that has begun is one through the file that it holds
pub begins_itself : (f : Contents) (state : WalkState) → Begins f state → Begins state.lists state
begins_itself f state begins = record {
  stands = subst (λ g. Stands g state.lists state.numbering) (sym begins.stands.file) begins.stands;
  keys = begins.keys;
  loops = begins.loops;
  faces = begins.faces;
}
