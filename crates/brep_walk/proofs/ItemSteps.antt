-- One face of a shell, and one shell of a solid.
use Rattle.std.specs.Prelude.{◌≡◌, ◌+◌, ℕ, ℤ, pos, Bool, List, [], ◌∷◌, ◌++◌, map, flat_map, length, take, slice_get, Contains, Some, Result, IsErrAnd, IfErr}
use Rattle.std.proofs.Common.{sym, ◌∙◌, ap, subst, inl, inr}
use Rattle.std.proofs.lemmas.List.{append-nil}
use Rattle.std.proofs.lemmas.Grind.{flat_map-append}
use Rattle.iges_base.specs.declared.entry_no.EntryNo.{EntryNo}
use Rattle.brep_numbering.specs.Keys.{Keys}
use Rattle.iges_params.specs.Contents.{Contents}
use Rattle.brep_lists.specs.Record.{FaceItems}
use Rattle.brep_lists.specs.declared.entity_kind.EntityKind.TheVariants.{Shell as shell, Face as face}
use Rattle.solid_data.specs.Obligations.{Obligation, AllHold, FirstFalse, obligation, after_each, entry_number}
use Rattle.solid_data.specs.declared.verdict.Rule.TheVariants.{Twice, BadGeometry}
use Rattle.solid_data.specs.declared.verdict.Failing.{Failing}
use Rattle.solid_data.proofs.ObligationLemmas.{AllHold-append, FirstFalse-append_front, FirstFalse-append_rest}
use Rattle.brep_walk.specs.declared.fault.WalkFault.{WalkFault}
use Rattle.brep_walk.specs.Places.{told, faces, loops, numbers, NamesGeometry, record_places, loop_places, face_at, face_places, shell_at, shell_places}
use Rattle.brep_walk.specs.Numbered.{IsMadeBy}
use Rattle.brep_walk.specs.SolidOf.{loop_by, face_by, shell_by}
use Rattle.brep_walk.specs.Walked.{IsFault}
use Rattle.solid_data.specs.declared.solid.FaceUse.{FaceUse}
use Rattle.solid_data.specs.declared.solid.Loop.{Loop}
use Rattle.brep_walk.proofs.Faults.{fault_front, fault_rest, handed}
use Rattle.brep_walk.proofs.WalkSteps.{place_next}

-- y is the number as a call was given it
module _ (f : Contents) (s : ℤ) (place : ℕ) (known : List ℤ) (z y : ℤ) (same : y ≡ z) where
  abbrev face_twice : List Obligation
  face_twice = obligation Twice (entry_number s) place (¬ Contains known y) ∷ []

  abbrev surface_place : List Obligation
  surface_place = obligation BadGeometry (entry_number y) 0 (let items = told face f y in NamesGeometry f items.surface) ∷ []

  abbrev loops_places : List Obligation
  loops_places = after_each (loop_places f y (flat_map (loops f) known)) [] (loops f y)

  pub no_face : {T : Type 0} (r : Result T WalkFault) (w : WalkFault) → IsFault (record_places f s place face y) w → IsErrAnd r (λ e. e ≡ w)
      → IfErr r (IsFault (face_at f s place known z))
  no_face r w h = handed (face_at f s place known z) r w (subst (λ l. IsFault (face_at f s place known l) w) same
      (fault_front (record_places f s place face y ++ (face_twice ++ surface_place)) loops_places w
      (fault_front (record_places f s place face y) (face_twice ++ surface_place) w h)))

  pub named_face_twice : {T : Type 0} (r : Result T WalkFault) (w : WalkFault) → AllHold (record_places f s place face y) → IsFault face_twice w
      → IsErrAnd r (λ e. e ≡ w) → IfErr r (IsFault (face_at f s place known z))
  named_face_twice r w holds h = handed (face_at f s place known z) r w (subst (λ l. IsFault (face_at f s place known l) w) same
      (fault_front (record_places f s place face y ++ (face_twice ++ surface_place)) loops_places w
      (fault_rest (record_places f s place face y) (face_twice ++ surface_place) w holds (fault_front face_twice surface_place w h))))

  abbrev names_surface : Type 0
  names_surface = let items = told face f y in NamesGeometry f items.surface

  abbrev face_front : List Obligation
  face_front = record_places f s place face y ++ (face_twice ++ surface_place)

  -- n is the entry that the number names, items what its record tells, and t the number of its surface as a call was given it; g is the file behind the lists
  module _ (n : ℕ) (at : y ≡ pos n) (items : FaceItems) (is : items ≡ told face f y) (g : Contents) (file : g ≡ f) where
    pub surface_named : (t : ℤ) → t ≡ items.surface → NamesGeometry g t → names_surface
    surface_named t number h =
        subst (λ (i : FaceItems). NamesGeometry f i.surface) is (subst (NamesGeometry f) number (subst (λ k. NamesGeometry k t) file h))

    pub surface_false : (t : ℤ) → t ≡ items.surface → (x : Failing) → AllHold (record_places f s place face y) → ¬ Contains known y → ¬ NamesGeometry g t
        → x ≡ record { rule = BadGeometry; entity = record { 0 = n }; place = 0 } → FirstFalse (face_at f s place known z) x
    surface_false t number x holds fresh bad made = subst (λ l. FirstFalse (face_at f s place known l) x) same
        (FirstFalse-append_front face_front loops_places x
        (FirstFalse-append_rest (record_places f s place face y) (face_twice ++ surface_place) x holds
        (inr (fresh, inl (λ h. bad (back h), made ∙ ap (λ v. record { rule = BadGeometry; entity = record { 0 = entry_number v }; place = 0 }) (sym at))))))
      where
        back : names_surface → NamesGeometry g t
        back h = subst (λ k. NamesGeometry k t) (sym file)
            (subst (NamesGeometry f) (sym number) (subst (λ (i : FaceItems). NamesGeometry f i.surface) (sym is) h))

    -- what holds of the loops, where these are named
    module _ (named : List ℤ) (used : named ≡ flat_map (loops f) known) where
      loops_moved : (P : List Obligation → Type 0) → P (after_each (loop_places g (pos n) named) [] items.loops) → P loops_places
      loops_moved P h =
          subst (λ (i : FaceItems). P (after_each (loop_places f y (flat_map (loops f) known)) [] i.loops)) is
          (subst (λ u. P (after_each (loop_places f y u) [] items.loops)) used
          (subst (λ l. P (after_each (loop_places f l named) [] items.loops)) (sym at)
          (subst (λ k. P (after_each (loop_places k (pos n) named) [] items.loops)) file h)))

      pub face_holds : AllHold (record_places f s place face y) → ¬ Contains known y → names_surface
          → AllHold (after_each (loop_places g (pos n) named) [] items.loops) → AllHold (face_at f s place known z)
      face_holds holds fresh surface h = subst (λ l. AllHold (face_at f s place known l)) same
          (AllHold-append face_front loops_places
          (AllHold-append (record_places f s place face y) (face_twice ++ surface_place) holds (fresh, (surface, tt)))
          (loops_moved AllHold h))

      pub loops_fail : {T : Type 0} (r : Result T WalkFault) (w : WalkFault) → AllHold (record_places f s place face y) → ¬ Contains known y → names_surface
          → IsFault (after_each (loop_places g (pos n) named) [] items.loops) w → IsErrAnd r (λ e. e ≡ w) → IfErr r (IsFault (face_at f s place known z))
      loops_fail r w holds fresh surface h = handed (face_at f s place known z) r w (subst (λ l. IsFault (face_at f s place known l) w) same
          (fault_rest face_front loops_places w
          (AllHold-append (record_places f s place face y) (face_twice ++ surface_place) holds (fresh, (surface, tt)))
          (loops_moved (λ os. IsFault os w) h)))

  abbrev shell_faces_places : List Obligation
  shell_faces_places = after_each (face_places f y (flat_map (λ b. numbers (faces f b)) known)) [] (faces f y)

  pub no_shell : {T : Type 0} (r : Result T WalkFault) (w : WalkFault) → IsFault (record_places f s place shell y) w → IsErrAnd r (λ e. e ≡ w)
      → IfErr r (IsFault (shell_at f s place known z))
  no_shell r w h = handed (shell_at f s place known z) r w (subst (λ l. IsFault (shell_at f s place known l) w) same
      (fault_front (record_places f s place shell y ++ face_twice) shell_faces_places w (fault_front (record_places f s place shell y) face_twice w h)))

  pub named_shell_twice : {T : Type 0} (r : Result T WalkFault) (w : WalkFault) → AllHold (record_places f s place shell y) → IsFault face_twice w
      → IsErrAnd r (λ e. e ≡ w) → IfErr r (IsFault (shell_at f s place known z))
  named_shell_twice r w holds h = handed (shell_at f s place known z) r w (subst (λ l. IsFault (shell_at f s place known l) w) same
      (fault_front (record_places f s place shell y ++ face_twice) shell_faces_places w (fault_rest (record_places f s place shell y) face_twice w holds h)))

  pub faces_fail : {T : Type 0} (r : Result T WalkFault) (w : WalkFault) (n : ℕ) → y ≡ pos n → (items : List (ℤ × Bool)) → items ≡ faces f y
      → (g : Contents) → g ≡ f → (named : List ℤ) → named ≡ flat_map (λ b. numbers (faces f b)) known
      → AllHold (record_places f s place shell y) → ¬ Contains known y → IsFault (after_each (face_places g (pos n) named) [] items) w
      → IsErrAnd r (λ e. e ≡ w) → IfErr r (IsFault (shell_at f s place known z))
  faces_fail r w n at items is g file named used holds fresh h =
      handed (shell_at f s place known z) r w (subst (λ l. IsFault (shell_at f s place known l) w) same
      (fault_rest (record_places f s place shell y ++ face_twice) shell_faces_places w
      (AllHold-append (record_places f s place shell y) face_twice holds (fresh, tt))
      (subst (λ i. IsFault (after_each (face_places f y (flat_map (λ b. numbers (faces f b)) known)) [] i) w) is
      (subst (λ u. IsFault (after_each (face_places f y u) [] items) w) used
      (subst (λ l. IsFault (after_each (face_places f l named) [] items) w) (sym at)
      (subst (λ k. IsFault (after_each (face_places k (pos n) named) [] items) w) file h))))))

  pub shell_holds : (n : ℕ) → y ≡ pos n → (items : List (ℤ × Bool)) → items ≡ faces f y → (g : Contents) → g ≡ f → (named : List ℤ)
      → named ≡ flat_map (λ b. numbers (faces f b)) known → AllHold (record_places f s place shell y) → ¬ Contains known y
      → AllHold (after_each (face_places g (pos n) named) [] items) → AllHold (shell_at f s place known z)
  shell_holds n at items is g file named used holds fresh h = subst (λ l. AllHold (shell_at f s place known l)) same
      (AllHold-append (record_places f s place shell y ++ face_twice) shell_faces_places
      (AllHold-append (record_places f s place shell y) face_twice holds (fresh, tt))
      (subst (λ i. AllHold (after_each (face_places f y (flat_map (λ b. numbers (faces f b)) known)) [] i)) is
      (subst (λ u. AllHold (after_each (face_places f y u) [] items)) used
      (subst (λ l. AllHold (after_each (face_places f l named) [] items)) (sym at)
      (subst (λ k. AllHold (after_each (face_places k (pos n) named) [] items)) file h)))))

-- what an item's record lists was named after what those before it list
pub named_more : (list : ℤ → List ℤ) (old_parts new_parts mine old new : List ℤ) (y : ℤ) → new_parts ≡ old_parts ++ mine → mine ≡ list y
    → old_parts ≡ flat_map list old → new ≡ old ++ y ∷ [] → new_parts ≡ flat_map list new
named_more list old_parts new_parts mine old new y grown is before last =
    grown ∙ ((λ j. before j ++ is j) ∙ (ap (λ xs. flat_map list old ++ xs) (sym (append-nil (list y)))
    ∙ (sym (flat_map-append list old (y ∷ [])) ∙ ap (flat_map list) (sym last))))

-- y is the number as a call was given it, and g the file behind the lists

pub face_made : (f g : Contents) → g ≡ f → (z y : ℤ) → y ≡ z → (flag : Bool) (entity : EntryNo) → y ≡ pos entity.0 → (items : FaceItems) → items ≡ told face f y
    → (keys : Keys) (ls : List Loop) → IsMadeBy keys (λ k. map (loop_by g k) items.loops) ls
    → IsMadeBy keys (λ k. face_by f k (z, flag)) (record { entity = entity; flag = flag; loops = ls })
face_made f g file z y same flag entity at items is keys ls made later more = λ j. record {
  entity = record { 0 = entry_number ((sym at ∙ same) j) };
  flag = flag;
  loops = (made later more ∙ (ap (λ h. map (loop_by h later) items.loops) file
      ∙ ap (λ (i : FaceItems). map (loop_by f later) i.loops) (is ∙ ap (told face f) same))) j;
}

pub shell_made : (f g : Contents) → g ≡ f → (z y : ℤ) → y ≡ z → (flag : Bool) (entity : EntryNo) → y ≡ pos entity.0 → (items : List (ℤ × Bool))
    → items ≡ faces f y → (keys : Keys) (cs : List FaceUse) → IsMadeBy keys (λ k. map (face_by g k) items) cs
    → IsMadeBy keys (λ k. shell_by f k (z, flag)) (record { entity = entity; flag = flag; faces = cs })
shell_made f g file z y same flag entity at items is keys cs made later more = λ j. record {
  entity = record { 0 = entry_number ((sym at ∙ same) j) };
  flag = flag;
  faces = (made later more ∙ (ap (λ h. map (face_by h later) items) file ∙ ap (map (face_by f later)) (is ∙ ap (faces f) same))) j;
}

-- g is the file behind the lists so far
module _ (f g : Contents) (same : g ≡ f) (s : ℤ) (known before : List ℤ) (all : List (ℤ × Bool)) (i : ℕ) (x : ℤ × Bool) (y : ℤ) (at : slice_get all i ≡ Some x)
    (is : y ≡ x.0) (so_far : known ≡ before) where
  pub item_holds : (At : Contents → ℤ → ℕ → List ℤ → ℤ → List Obligation) → AllHold (At g s (i + 1) known y)
      → AllHold (At f s (length (take i all) + 1) before x.0)
  item_holds At h = subst (λ n. AllHold (At f s n before x.0)) (place_next all i x at)
      (subst (λ l. AllHold (At f s (i + 1) l x.0)) so_far
      (subst (λ l. AllHold (At f s (i + 1) known l)) is (subst (λ h. AllHold (At h s (i + 1) known y)) same h)))

  pub item_fails : (At : Contents → ℤ → ℕ → List ℤ → ℤ → List Obligation) (w : WalkFault) → IsFault (At g s (i + 1) known y) w
      → IsFault (At f s (length (take i all) + 1) before x.0) w
  item_fails At w h = subst (λ n. IsFault (At f s n before x.0) w) (place_next all i x at)
      (subst (λ l. IsFault (At f s (i + 1) l x.0) w) so_far
      (subst (λ l. IsFault (At f s (i + 1) known l) w) is (subst (λ h. IsFault (At h s (i + 1) known y) w) same h)))

pub face_placed : (f : Contents) (s : ℤ) (used : List ℤ) (before : List (ℤ × Bool)) (x : ℤ × Bool)
    → AllHold (face_at f s (length before + 1) (used ++ numbers before) x.0) → AllHold (face_places f s used before x)
unfolding face_places
face_placed f s used before x h = h

pub face_failed : (f : Contents) (s : ℤ) (used : List ℤ) (before : List (ℤ × Bool)) (x : ℤ × Bool) (w : WalkFault)
    → IsFault (face_at f s (length before + 1) (used ++ numbers before) x.0) w → IsFault (face_places f s used before x) w
unfolding face_places
face_failed f s used before x w h = h

pub shell_placed : (f : Contents) (n : ℤ) (before : List (ℤ × Bool)) (x : ℤ × Bool) → AllHold (shell_at f n (length before + 1) (numbers before) x.0)
    → AllHold (shell_places f n before x)
unfolding shell_places
shell_placed f n before x h = h

pub shell_failed : (f : Contents) (n : ℤ) (before : List (ℤ × Bool)) (x : ℤ × Bool) (w : WalkFault)
    → IsFault (shell_at f n (length before + 1) (numbers before) x.0) w → IsFault (shell_places f n before x) w
unfolding shell_places
shell_failed f n before x w h = h
