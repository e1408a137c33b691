-- One loop of a face.
use Rattle.std.specs.Prelude.{◌≡◌, ◌+◌, ℕ, ℤ, pos, List, [], ◌∷◌, ◌++◌, map, take, slice_get, Contains, Some, Result, IsErrAnd, IfErr}
use Rattle.std.proofs.Common.{sym, ◌∙◌, ap, subst, append_assoc}
use Rattle.iges_params.specs.Contents.{Contents}
use Rattle.iges_base.specs.declared.entry_no.EntryNo.{EntryNo}
use Rattle.brep_lists.specs.Record.{LoopTuple}
use Rattle.brep_numbering.specs.Keys.{Keys}
use Rattle.brep_lists.specs.declared.entity_kind.EntityKind.TheVariants.{Loop as «loop»}
use Rattle.solid_data.specs.Obligations.{Obligation, AllHold, obligation, after_each, entry_number}
use Rattle.solid_data.specs.declared.verdict.Rule.TheVariants.{Twice}
use Rattle.brep_walk.specs.declared.fault.WalkFault.{WalkFault}
use Rattle.solid_data.proofs.ObligationLemmas.{AllHold-append}
use Rattle.brep_walk.specs.Known.{uses_places}
use Rattle.brep_walk.specs.Places.{tuples, record_places, tuple_places, loop_at, loop_places}
use Rattle.brep_walk.specs.Numbered.{IsMadeBy}
use Rattle.brep_walk.specs.SolidOf.{use_by, loop_by}
use Rattle.brep_walk.specs.Walked.{IsFault}
use Rattle.solid_data.specs.declared.solid.LoopUse.{LoopUse}
use Rattle.brep_walk.proofs.Faults.{fault_front, fault_rest, handed}
use Rattle.brep_walk.proofs.WalkSteps.{take_next, place_next}

-- y is the number as a call was given it
module _ (f : Contents) (c : ℤ) (place : ℕ) (known : List ℤ) (z y : ℤ) (same : y ≡ z) where
  abbrev twice : List Obligation
  twice = obligation Twice (entry_number c) place (¬ Contains known y) ∷ []

  abbrev rest : List Obligation
  rest = after_each (tuple_places f y) [] (tuples f y)

  pub no_loop : {T : Type 0} (r : Result T WalkFault) (w : WalkFault) → IsFault (record_places f c place «loop» y) w → IsErrAnd r (λ e. e ≡ w)
      → IfErr r (IsFault (loop_at f c place known z))
  no_loop r w h = handed (loop_at f c place known z) r w (subst (λ l. IsFault (loop_at f c place known l) w) same
      (fault_front (record_places f c place «loop» y ++ twice) rest w (fault_front (record_places f c place «loop» y) twice w h)))

  pub loop_twice : {T : Type 0} (r : Result T WalkFault) (w : WalkFault) → AllHold (record_places f c place «loop» y) → IsFault twice w
      → IsErrAnd r (λ e. e ≡ w) → IfErr r (IsFault (loop_at f c place known z))
  loop_twice r w holds h = handed (loop_at f c place known z) r w (subst (λ l. IsFault (loop_at f c place known l) w) same
      (fault_front (record_places f c place «loop» y ++ twice) rest w (fault_rest (record_places f c place «loop» y) twice w holds h)))

  pub uses_fail : {T : Type 0} (r : Result T WalkFault) (w : WalkFault) (g : Contents) → g ≡ f → (n : ℕ) → y ≡ pos n
      → AllHold (record_places f c place «loop» y) → ¬ Contains known y → IsFault (uses_places g (pos n)) w → IsErrAnd r (λ e. e ≡ w)
      → IfErr r (IsFault (loop_at f c place known z))
  uses_fail r w g file n is holds fresh h = handed (loop_at f c place known z) r w (subst (λ l. IsFault (loop_at f c place known l) w) same
      (fault_rest (record_places f c place «loop» y ++ twice) rest w (AllHold-append (record_places f c place «loop» y) twice holds (fresh, tt))
      (subst (λ l. IsFault (uses_places f l) w) (sym is) (subst (λ k. IsFault (uses_places k (pos n)) w) file h))))

  pub loop_whole : (g : Contents) → g ≡ f → (n : ℕ) → y ≡ pos n → AllHold (record_places f c place «loop» y) → ¬ Contains known y
      → AllHold (uses_places g (pos n)) → AllHold (loop_at f c place known z)
  loop_whole g file n is holds fresh h = subst (λ l. AllHold (loop_at f c place known l)) same
      (AllHold-append (record_places f c place «loop» y ++ twice) rest (AllHold-append (record_places f c place «loop» y) twice holds (fresh, tt))
      (subst (λ l. AllHold (uses_places f l)) (sym is) (subst (λ k. AllHold (uses_places k (pos n))) file h)))

-- y is the number as a call was given it
pub loop_made : (f : Contents) (z y : ℤ) → y ≡ z → (entity : EntryNo) → y ≡ pos entity.0 → (listed : List LoopTuple) → listed ≡ tuples f y
    → (keys : Keys) (uses : List LoopUse) → IsMadeBy keys (λ k. map (use_by k) listed) uses
    → IsMadeBy keys (λ k. loop_by f k z) (record { entity = entity; uses = uses })
loop_made f z y same entity is listed told keys uses made later more = λ j. record {
  entity = record { 0 = entry_number ((sym is ∙ same) j) };
  uses = (made later more ∙ ap (map (use_by later)) (told ∙ ap (tuples f) same)) j;
}

-- g is the file behind the lists so far
module _ (f g : Contents) (same : g ≡ f) (c : ℤ) (used known : List ℤ) (all : List ℤ) (i : ℕ) (z y : ℤ) (at : slice_get all i ≡ Some z) (is : y ≡ z)
    (so_far : known ≡ used ++ take i all) where
  pub loop_holds : AllHold (loop_at g c (i + 1) known y) → AllHold (loop_places f c used (take i all) z)
  unfolding loop_places
  loop_holds h = subst (λ n. AllHold (loop_at f c n (used ++ take i all) z)) (place_next all i z at)
      (subst (λ l. AllHold (loop_at f c (i + 1) l z)) so_far
      (subst (λ l. AllHold (loop_at f c (i + 1) known l)) is (subst (λ h. AllHold (loop_at h c (i + 1) known y)) same h)))

  pub loop_fails : (w : WalkFault) → IsFault (loop_at g c (i + 1) known y) w → IsFault (loop_places f c used (take i all) z) w
  unfolding loop_places
  loop_fails w h = subst (λ n. IsFault (loop_at f c n (used ++ take i all) z) w) (place_next all i z at)
      (subst (λ l. IsFault (loop_at f c (i + 1) l z) w) so_far
      (subst (λ l. IsFault (loop_at f c (i + 1) known l) w) is (subst (λ h. IsFault (loop_at h c (i + 1) known y) w) same h)))

  pub loop_named : (new : List ℤ) → new ≡ known ++ y ∷ [] → new ≡ used ++ take (i + 1) all
  loop_named new h = h ∙ (ap (λ l. l ++ y ∷ []) so_far
      ∙ (append_assoc used (take i all) (y ∷ []) ∙ (ap (λ l. used ++ (take i all ++ l ∷ [])) is ∙ ap (λ l. used ++ l) (sym (take_next all i z at)))))
