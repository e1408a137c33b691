-- What a place owes, and what stands inside of it.
use Rattle.std.specs.Prelude.{◌≡◌, ◌+◌, ℕ, ℤ, pos, Bool, List, [], ◌∷◌, ◌++◌, length, take, slice_get, Option, Some, None, Result, Ok, Err}
use Rattle.std.proofs.Common.{sym, ◌∙◌, ap, subst, inl, inr, ⊎_elim}
use Rattle.iges_params.specs.Contents.{Contents}
use Rattle.brep_lists.specs.Record.{LoopTuple, FaceItems}
use Rattle.brep_lists.specs.declared.entity_kind.EntityKind.{EntityKind}
use Rattle.brep_lists.specs.declared.entity_kind.EntityKind.TheVariants.{Solid as solid, Shell as shell, Face as face, Loop as «loop»}
use Rattle.brep_walk.specs.Places.{told, shells, faces, loops, tuples, numbers, HasRecordOf, entry_places, tuple_places, tuple_at, places}
use Rattle.solid_data.specs.Obligations.{Obligation, FirstFalse, obligation}
use Rattle.solid_data.specs.declared.verdict.Failing.{Failing}
use Rattle.solid_data.specs.declared.verdict.Rule.TheVariants.{BadLayout}
use Rattle.record_paths.specs.declared.ended.Ended.{Ended}
use Rattle.record_paths.specs.declared.ended.Ended.TheVariants.{Found, Lost}
use Rattle.record_paths.specs.declared.path.Path.{Path}
use Rattle.record_paths.specs.Paths.{Sited, on, all_owed, IsPathTo, in_solid, in_shell, in_face, in_loop, naming_places, face_naming, sited_after, tuples_sited}
use Rattle.record_paths.specs.Paths.{loop_sited, loops_sited, face_sited, faces_sited, shell_sited, shells_sited, sited}
use Rattle.record_paths.specs.Searched.{Bears, Searched}
use Rattle.record_paths.proofs.Bearing.{first_bears, path_left, path_on, on_bears}
use Rattle.brep_walk.proofs.WalkSteps.{place_next}
use Rattle.record_paths.proofs.SearchSteps.{Ends, found_here, lost_here, passed_here}
use Rattle.record_paths.proofs.Same.{same_sited, same_false}

-- y is the number as a call was given it

module _ (f : Contents) (p : Path) (entity : ℤ) (item : ℕ) (kind : EntityKind) (known : List ℤ) (z y : ℤ) (is : y ≡ z) (rest : List Sited) (x : Failing) where
  pub place_found : Bears (naming_places f entity item kind known y) x → Ends (on (Some p) (naming_places f entity item kind known z) ++ rest) x (Found p)
  place_found h = found_here p (naming_places f entity item kind known z) rest x (subst (λ n. Bears (naming_places f entity item kind known n) x) is h)

  place_none : ¬ Bears (naming_places f entity item kind known y) x → ¬ Bears (naming_places f entity item kind known z) x
  place_none none = subst (λ n. ¬ Bears (naming_places f entity item kind known n) x) is none

  pub place_lost : ¬ Bears (naming_places f entity item kind known y) x → ¬ HasRecordOf kind f y
      → Ends (on (Some p) (naming_places f entity item kind known z) ++ rest) x Lost
  place_lost none bad = lost_here (Some p) (naming_places f entity item kind known z) rest x (place_none none)
      (λ all. subst (λ n. ¬ HasRecordOf kind f n) is bad all.1.1.0)

  pub place_passed : (r : Result (Unit {0}) Ended) → ¬ Bears (naming_places f entity item kind known y) x → Searched rest x r
      → Searched (on (Some p) (naming_places f entity item kind known z) ++ rest) x r
  place_passed r none h = passed_here (Some p) (naming_places f entity item kind known z) rest x r (place_none none) h

module _ (f : Contents) (p : Path) (entity : ℤ) (item : ℕ) (known : List ℤ) (z y : ℤ) (is : y ≡ z) (rest : List Sited) (x : Failing) where
  pub face_found : Bears (face_naming f entity item known y) x → Ends (on (Some p) (face_naming f entity item known z) ++ rest) x (Found p)
  face_found h = found_here p (face_naming f entity item known z) rest x (subst (λ n. Bears (face_naming f entity item known n) x) is h)

  face_none : ¬ Bears (face_naming f entity item known y) x → ¬ Bears (face_naming f entity item known z) x
  face_none none = subst (λ n. ¬ Bears (face_naming f entity item known n) x) is none

  pub face_lost : ¬ Bears (face_naming f entity item known y) x → ¬ HasRecordOf face f y → Ends (on (Some p) (face_naming f entity item known z) ++ rest) x Lost
  face_lost none bad = lost_here (Some p) (face_naming f entity item known z) rest x (face_none none)
      (λ all. subst (λ n. ¬ HasRecordOf face f n) is bad all.1.1.0)

  pub face_passed : (r : Result (Unit {0}) Ended) → ¬ Bears (face_naming f entity item known y) x → Searched rest x r
      → Searched (on (Some p) (face_naming f entity item known z) ++ rest) x r
  face_passed r none h = passed_here (Some p) (face_naming f entity item known z) rest x r (face_none none) h

-- Inside, where the number is that of the entry.

module _ (f : Contents) (p : Path) (item : ℕ) (z y : ℤ) (is : y ≡ z) (n : ℕ) (named : y ≡ pos n) (x : Failing) (r : Result (Unit {0}) Ended) where
  here : pos n ≡ z
  here j = (sym named ∙ is) j

  pub inside_loop : (listed : List LoopTuple) → listed ≡ told «loop» f y → Searched (sited_after (tuples_sited f (in_loop p (pos n) item) (pos n)) [] listed) x
      r
      → Searched (sited_after (tuples_sited f (in_loop p z item) z) [] (tuples f z)) x r
  inside_loop listed told_so h =
      subst (λ m. Searched (sited_after (tuples_sited f (in_loop p m item) m) [] (tuples f z)) x r) here
      (subst (λ ts. Searched (sited_after (tuples_sited f (in_loop p (pos n) item) (pos n)) [] ts) x r) (told_so ∙ ap (told «loop» f) is) h)

  pub inside_face : (listed : FaceItems) → listed ≡ told face f y → (used : List ℤ)
      → Searched (sited_after (loops_sited f (in_face p (pos n) item) (pos n) used) [] listed.loops) x r
      → Searched (sited_after (loops_sited f (in_face p z item) z used) [] (loops f z)) x r
  inside_face listed told_so used h =
      subst (λ m. Searched (sited_after (loops_sited f (in_face p m item) m used) [] (loops f z)) x r) here
      (subst (λ (t : FaceItems). Searched (sited_after (loops_sited f (in_face p (pos n) item) (pos n) used) [] t.loops) x r) (told_so ∙ ap (told face f) is) h)

  pub inside_shell : (listed : List (ℤ × Bool)) → listed ≡ told shell f y → (used : List ℤ)
      → Searched (sited_after (faces_sited f (in_shell p (pos n) item) (pos n) used) [] listed) x r
      → Searched (sited_after (faces_sited f (in_shell p z item) z used) [] (faces f z)) x r
  inside_shell listed told_so used h =
      subst (λ m. Searched (sited_after (faces_sited f (in_shell p m item) m used) [] (faces f z)) x r) here
      (subst (λ ts. Searched (sited_after (faces_sited f (in_shell p (pos n) item) (pos n) used) [] ts) x r) (told_so ∙ ap (told shell f) is) h)

-- The i-th item.

pub tuple_none : (f : Contents) (p : Path) (l : ℤ) (before : List LoopTuple) (t : LoopTuple) (item : ℕ) (x : Failing) → item ≡ length before + 1
    → ¬ Bears (all_owed (on (Some p) (tuple_at f l item t))) x
    → ¬ Bears (all_owed (tuples_sited f p l before t)) x
unfolding tuples_sited tuple_places
tuple_none f p l before t item x at h = subst (λ i. ¬ Bears (all_owed (on (Some p) (tuple_at f l i t))) x) at h

pub tuple_ends : (f : Contents) (p : Path) (l : ℤ) (before : List LoopTuple) (t : LoopTuple) (item : ℕ) (x : Failing) (e : Ended) → item ≡ length before + 1
    → Ends (on (Some p) (tuple_at f l item t)) x e
    → Ends (tuples_sited f p l before t) x e
unfolding tuples_sited tuple_places
tuple_ends f p l before t item x e at h = subst (λ i. Ends (on (Some p) (tuple_at f l i t)) x e) at h

module _ (f : Contents) (p : Path) (c : ℤ) (used : List ℤ) (all : List ℤ) (i : ℕ) (z y : ℤ) (at : slice_get all i ≡ Some z) (is : y ≡ z) (x : Failing) where
  pub loop_none : ((known : List ℤ) → ¬ Bears (all_owed (loop_sited f p c (i + 1) known y)) x) → ¬ Bears (all_owed (loops_sited f p c used (take i all) z)) x
  unfolding loops_sited
  loop_none h = subst (λ n. ¬ Bears (all_owed (loop_sited f p c n (used ++ take i all) z)) x) (place_next all i z at)
      (subst (λ l. ¬ Bears (all_owed (loop_sited f p c (i + 1) (used ++ take i all) l)) x) is (h (used ++ take i all)))

  pub loop_ends : (e : Ended) → ((known : List ℤ) → Ends (loop_sited f p c (i + 1) known y) x e) → Ends (loops_sited f p c used (take i all) z) x e
  unfolding loops_sited
  loop_ends e h = subst (λ n. Ends (loop_sited f p c n (used ++ take i all) z) x e) (place_next all i z at)
      (subst (λ l. Ends (loop_sited f p c (i + 1) (used ++ take i all) l) x e) is (h (used ++ take i all)))

module _ (f : Contents) (p : Path) (s : ℤ) (used : List ℤ) (all : List (ℤ × Bool)) (i : ℕ) (z : ℤ × Bool) (y : ℤ) (at : slice_get all i ≡ Some z)
    (is : y ≡ z.0) (x : Failing) where
  pub face_not : ((known : List ℤ) → ¬ Bears (all_owed (face_sited f p s (i + 1) known y)) x) → ¬ Bears (all_owed (faces_sited f p s used (take i all) z)) x
  unfolding faces_sited
  face_not h = subst (λ n. ¬ Bears (all_owed (face_sited f p s n (used ++ numbers (take i all)) z.0)) x) (place_next all i z at)
      (subst (λ l. ¬ Bears (all_owed (face_sited f p s (i + 1) (used ++ numbers (take i all)) l)) x) is (h (used ++ numbers (take i all))))

  pub face_ends : (e : Ended) → ((known : List ℤ) → Ends (face_sited f p s (i + 1) known y) x e) → Ends (faces_sited f p s used (take i all) z) x e
  unfolding faces_sited
  face_ends e h = subst (λ n. Ends (face_sited f p s n (used ++ numbers (take i all)) z.0) x e) (place_next all i z at)
      (subst (λ l. Ends (face_sited f p s (i + 1) (used ++ numbers (take i all)) l) x e) is (h (used ++ numbers (take i all))))

  pub shell_not : ((known : List ℤ) → ¬ Bears (all_owed (shell_sited f p s (i + 1) known y)) x) → ¬ Bears (all_owed (shells_sited f p s (take i all) z)) x
  unfolding shells_sited
  shell_not h = subst (λ n. ¬ Bears (all_owed (shell_sited f p s n (numbers (take i all)) z.0)) x) (place_next all i z at)
      (subst (λ l. ¬ Bears (all_owed (shell_sited f p s (i + 1) (numbers (take i all)) l)) x) is (h (numbers (take i all))))

  pub shell_ends : (e : Ended) → ((known : List ℤ) → Ends (shell_sited f p s (i + 1) known y) x e) → Ends (shells_sited f p s (take i all) z) x e
  unfolding shells_sited
  shell_ends e h = subst (λ n. Ends (shell_sited f p s n (numbers (take i all)) z.0) x e) (place_next all i z at)
      (subst (λ l. Ends (shell_sited f p s (i + 1) (numbers (take i all)) l) x e) is (h (numbers (take i all))))

-- The whole solid.

path_past : (x : Failing) (a b c : List Sited) (w : Option Path) → ¬ Bears (all_owed a) x → IsPathTo x (b ++ c) w → IsPathTo x ((a ++ b) ++ c) w
path_past x [] b c w none h = h
path_past x (s ∷ a) b c w none h = ((λ e. absurd (none (inl e))), inr (path_past x a b c w (λ r. none (inr r)) h))

false_past : (a b c : List Sited) (x : Failing) → ¬ Bears (all_owed a) x → FirstFalse (all_owed ((a ++ b) ++ c)) x → FirstFalse (all_owed (b ++ c)) x
false_past [] b c x none h = h
false_past (s ∷ a) b c x none h = ⊎_elim (λ q. absurd (none (inl q.1))) (λ r. false_past a b c x (λ q. none (inr q)) r.1) h

module _ (f : Contents) (n : ℕ) (x : Failing) where
  abbrev entry : List Obligation
  entry = entry_places f (pos n) 0 solid (pos n)

  abbrev layout : List Sited
  layout = on (Some in_solid) (obligation BadLayout n 0 (HasRecordOf solid f (pos n)) ∷ [])

  abbrev inner : List Sited
  inner = sited_after (shells_sited f in_solid (pos n)) [] (shells f (pos n))

  pub no_solid : Bears entry x → IsPathTo x (sited f n) None
  unfolding sited
  no_solid h = path_left x (on None entry ++ layout) inner None (path_left x (on None entry) layout None (path_on x None entry h))

  abbrev Answered : Result (Unit {0}) Ended → Type 0
  Answered r = Searched (layout ++ inner) x r

  pub some_path : ¬ Bears entry x → (r : Result (Unit {0}) Ended) → Answered r → (p : Path) → r ≡ Err (Found p) → IsPathTo x (sited f n) (Some p)
  unfolding sited
  some_path none r h p is = path_past x (on None entry) layout inner (Some p) (λ b. none (on_bears None entry x b)) (subst Answered is h)

  left_false : ¬ Bears entry x → FirstFalse (places f n) x → FirstFalse (all_owed (layout ++ inner)) x
  unfolding sited
  left_false none h = false_past (on None entry) layout inner x (λ b. none (on_bears None entry x b))
      (same_false (all_owed (sited f n)) (places f n) x (same_sited f n) h)

  pub not_none : ¬ Bears entry x → FirstFalse (places f n) x → (r : Result (Unit {0}) Ended) → Answered r → (t : Unit {0}) → r ≡ Ok t → ⊥
  not_none none h r answered t is = let nowhere : Answered (Ok t) = subst Answered is answered in nowhere
      (first_bears (all_owed (layout ++ inner)) x (left_false none h))

  pub not_lost : ¬ Bears entry x → FirstFalse (places f n) x → (r : Result (Unit {0}) Ended) → Answered r → r ≡ Err Lost → ⊥
  not_lost none h r answered is = let lost : Answered (Err Lost) = subst Answered is answered in lost.1 (left_false none h)
