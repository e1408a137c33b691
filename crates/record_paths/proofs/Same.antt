-- The obligations with their paths are those of the solid's records.
use Rattle.std.specs.Prelude.{◌+◌, ℕ, ℤ, pos, Bool, List, [], ◌∷◌, ◌++◌, flat_map, length}
use Rattle.std.proofs.Common.{refl, sym, ◌∙◌, inl, inr, ⊎_elim}
use Rattle.iges_params.specs.Contents.{Contents}
use Rattle.brep_lists.specs.Record.{LoopTuple}
use Rattle.brep_lists.specs.declared.entity_kind.EntityKind.TheVariants.{Solid as solid, Shell as shell, Loop as «loop»}
use Rattle.brep_walk.specs.Places.{shells, faces, loops, tuples, numbers, HasRecordOf, entry_places, tuple_places, loop_places, face_places, shell_places}
use Rattle.brep_walk.specs.Places.{places}
use Rattle.solid_data.specs.Obligations.{Obligation, FirstFalse, obligation, after_each}
use Rattle.solid_data.specs.declared.verdict.Failing.{Failing}
use Rattle.solid_data.specs.declared.verdict.Rule.TheVariants.{BadLayout}
use Rattle.record_paths.specs.declared.path.Path.{Path}
use Rattle.record_paths.specs.Paths.{Sited, on, all_owed, AreSame, sited_after, in_solid, in_shell, in_face, in_loop, naming_places, face_naming, tuples_sited}
use Rattle.record_paths.specs.Paths.{loops_sited, faces_sited, shells_sited, sited}
use Rattle.std.specs.Prelude.{Option, Some, None}

same_on : (p : Option Path) (os : List Obligation) → AreSame (all_owed (on p os)) os
same_on p [] = tt
same_on p (o ∷ os) = (refl, ((λ h. h), (λ h. h)), same_on p os)

same_joined : (a b : List Sited) (os ps : List Obligation) → AreSame (all_owed a) os → AreSame (all_owed b) ps → AreSame (all_owed (a ++ b)) (os ++ ps)
same_joined [] b [] ps h k = k
same_joined [] b (o ∷ os) ps h k = absurd h
same_joined (s ∷ a) b [] ps h k = absurd h
same_joined (s ∷ a) b (o ∷ os) ps h k = (h.0, h.1, same_joined a b os ps h.2 k)

same_after : {A : Type 0} (g : List A → A → List Sited) (k : List A → A → List Obligation)
    → ((before : List A) (x : A) → AreSame (all_owed (g before x)) (k before x)) → (before xs : List A)
    → AreSame (all_owed (sited_after g before xs)) (after_each k before xs)
same_after g k h before [] = tt
same_after g k h before (x ∷ xs) = same_joined (g before x) (sited_after g (before ++ x ∷ []) xs) (k before x) (after_each k (before ++ x ∷ []) xs)
    (h before x) (same_after g k h (before ++ x ∷ []) xs)

same_tuples : (f : Contents) (p : Path) (l : ℤ) (before : List LoopTuple) (t : LoopTuple)
    → AreSame (all_owed (tuples_sited f p l before t)) (tuple_places f l before t)
unfolding tuples_sited
same_tuples f p l before t = same_on (Some p) (tuple_places f l before t)

same_loops : (f : Contents) (p : Path) (c : ℤ) (used before : List ℤ) (l : ℤ)
    → AreSame (all_owed (loops_sited f p c used before l)) (loop_places f c used before l)
unfolding loops_sited loop_places
same_loops f p c used before l =
    let at = length before + 1 in
    let own = naming_places f c at «loop» (used ++ before) l in
    same_joined (on (Some p) own) (sited_after (tuples_sited f (in_loop p l at) l) [] (tuples f l)) own (after_each (tuple_places f l) [] (tuples f l))
    (same_on (Some p) own) (same_after (tuples_sited f (in_loop p l at) l) (tuple_places f l) (same_tuples f (in_loop p l at) l) [] (tuples f l))

same_faces : (f : Contents) (p : Path) (s : ℤ) (used : List ℤ) (before : List (ℤ × Bool)) (i : ℤ × Bool)
    → AreSame (all_owed (faces_sited f p s used before i)) (face_places f s used before i)
unfolding faces_sited face_places
same_faces f p s used before i =
    let at = length before + 1 in
    let known = used ++ numbers before in
    let own = face_naming f s at known i.0 in
    let g = loops_sited f (in_face p i.0 at) i.0 (flat_map (loops f) known) in
    let k = loop_places f i.0 (flat_map (loops f) known) in
    same_joined (on (Some p) own) (sited_after g [] (loops f i.0)) own (after_each k [] (loops f i.0))
    (same_on (Some p) own) (same_after g k (same_loops f (in_face p i.0 at) i.0 (flat_map (loops f) known)) [] (loops f i.0))

same_shells : (f : Contents) (p : Path) (n : ℤ) (before : List (ℤ × Bool)) (i : ℤ × Bool)
    → AreSame (all_owed (shells_sited f p n before i)) (shell_places f n before i)
unfolding shells_sited shell_places
same_shells f p n before i =
    let at = length before + 1 in
    let own = naming_places f n at shell (numbers before) i.0 in
    let used = flat_map (λ b. numbers (faces f b)) (numbers before) in
    let g = faces_sited f (in_shell p i.0 at) i.0 used in
    let k = face_places f i.0 used in
    same_joined (on (Some p) own) (sited_after g [] (faces f i.0)) own (after_each k [] (faces f i.0))
    (same_on (Some p) own) (same_after g k (same_faces f (in_shell p i.0 at) i.0 used) [] (faces f i.0))

pub same_sited : (f : Contents) (n : ℕ) → AreSame (all_owed (sited f n)) (places f n)
unfolding sited places
same_sited f n =
    let entry = entry_places f (pos n) 0 solid (pos n) in
    let layout = obligation BadLayout n 0 (HasRecordOf solid f (pos n)) ∷ [] in
    let g = shells_sited f in_solid (pos n) in
    let k = shell_places f (pos n) in
    let all = shells f (pos n) in
    same_joined (on None entry ++ on (Some in_solid) layout) (sited_after g [] all) (entry ++ layout) (after_each k [] all)
    (same_joined (on None entry) (on (Some in_solid) layout) entry layout (same_on None entry) (same_on (Some in_solid) layout))
    (same_after g k (same_shells f in_solid (pos n)) [] all)

pub same_false : (os ps : List Obligation) (x : Failing) → AreSame os ps → FirstFalse ps x → FirstFalse os x
same_false [] [] x h f = f
same_false [] (p ∷ ps) x h f = absurd h
same_false (o ∷ os) [] x h f = absurd h
same_false (o ∷ os) (p ∷ ps) x h f =
    ⊎_elim (λ b. inl ((λ y. b.0 (h.1.0 y)), b.1 ∙ sym h.0)) (λ r. inr (h.1.1 r.0, same_false os ps x h.2 r.1)) f
