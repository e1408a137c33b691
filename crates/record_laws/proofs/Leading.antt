-- The path of the first obligation that bears the name of the first false one is the path on which that one lies.
use Rattle.std.specs.Prelude.{◌≡◌, ℕ, suc, ◌+◌, Bool, ℤ, pos, negsuc, List, [], ◌∷◌, ◌++◌, ◌⊎◌, length, flat_map, Option, Some, None, slice_get}
use Rattle.std.proofs.Common.{refl, sym, ◌∙◌, ap, subst, arith, inl, inr, ⊎_elim, append_assoc}
use Rattle.iges_params.specs.Contents.{Contents}
use Rattle.brep_lists.specs.Record.{LoopTuple}
use Rattle.brep_lists.specs.declared.entity_kind.EntityKind.TheVariants.{Solid as solid, Shell as shell, Face as face, Loop as «loop»}
use Rattle.brep_walk.specs.Places.{shells, faces, loops, tuples, numbers, NamesKind, HasRecordOf, entry_places, tuple_at, tuple_places, places}
use Rattle.solid_data.specs.Obligations.{Obligation, AllHold, FirstFalse, obligation}
use Rattle.solid_data.specs.declared.verdict.Rule.TheVariants as rule
use Rattle.solid_data.specs.declared.verdict.Failing.{Failing}
use Rattle.record_paths.specs.declared.path.Path.{Path}
use Rattle.record_paths.specs.Paths.{Sited, on, all_owed, IsPathTo, in_solid, in_shell, in_face, in_loop, sited_after, naming_places, face_naming, tuples_sited}
use Rattle.record_paths.specs.Paths.{loop_sited, loops_sited, face_sited, faces_sited, shell_sited, shells_sited, sited}
use Rattle.record_paths.specs.Searched.{Bears}
use Rattle.record_paths.proofs.Bearing.{first_bears, path_one, path_left, path_right, path_on, owed_false, owed_hold, owed_bears, on_hold, on_bears, on_false}
use Rattle.record_paths.proofs.Same.{same_sited, same_false}
use Rattle.record_laws.specs.Lying.{LiesOn, ComesBefore, PathsLeadToFalse}
use Rattle.record_laws.proofs.Befores.{before_front, before_rest, before_across, before_same, lies_front, lies_rest}
use Rattle.record_laws.proofs.Settled.{Named, tuple_settles, tuple_fresh, loop_settles, loop_fresh, face_settles, face_fresh, shell_settles, shell_fresh}
use Rattle.record_laws.proofs.Settled.{whole_named}
use Rattle.record_laws.proofs.NamedOnce.{places_once}

seam_here : {A : Type 0} (before rest : List A) (y : A) → slice_get (before ++ y ∷ rest) (length before) ≡ Some y
seam_here [] rest y = refl
seam_here (z ∷ before) rest y = seam_here before rest y

-- the item after those before it
pub seam : {A : Type 0} (before rest : List A) (y : A) (all : List A) → before ++ y ∷ rest ≡ all → slice_get all (length before) ≡ Some y
seam before rest y all e = ap (λ xs. slice_get xs (length before)) (sym e) ∙ seam_here before rest y

pub next : {A : Type 0} (before : List A) → suc (length before) ≡ length before + 1
next before = omega arith

lies_on : (x : Failing) (p : Option Path) (os : List Obligation) → FirstFalse os x → LiesOn x (on p os) p
lies_on x p [] h = h
lies_on x p (o ∷ os) h = ⊎_elim (λ b. inl (b.0, b.1, refl)) (λ r. inr (r.0, lies_on x p os r.1)) h

module _ (f : Contents) (x : Failing) where
  -- the first that bears the name lies on a path on which the first false one lies
  record Lies (ss : List Sited) : Type 0 where
    path : Option Path
    leads : IsPathTo x ss path
    lies : LiesOn x ss path

  abbrev Fresh : Type 0
  Fresh = (x.rule ≡ rule.Twice) ⊎ (¬ Named f x)

  -- an obligation Twice isn't asked twice
  abbrev IsOnce : List Sited → Type 0
  IsOnce ss = x.rule ≡ rule.Twice → ¬ ComesBefore x x (all_owed ss)

  -- Where all hold, so does all that is owed where one bears the name. Where x is the first false one, the first that bears its name lies on its path, and x is
  -- an obligation Twice, or not all that is owed there holds.
  record Leads (ss : List Sited) : Type 0 where
    settled : AllHold (all_owed ss) → Bears (all_owed ss) x → Named f x
    found : IsOnce ss → FirstFalse (all_owed ss) x → Lies ss × Fresh

  leads_none : Leads []
  leads_none = record { settled = λ all h. absurd h; found = λ once h. absurd h }

  lies_left : (a b : List Sited) → Lies a → Lies (a ++ b)
  lies_left a b c = record { path = c.path; leads = path_left x a b c.path c.leads; lies = lies_front x a b c.path c.lies }

  lies_right : (a b : List Sited) → AllHold (all_owed a) → ¬ Bears (all_owed a) x → Lies b → Lies (a ++ b)
  lies_right a b all none c =
      record { path = c.path; leads = path_right x a b c.path none c.leads; lies = lies_rest x a b c.path all c.lies }

  -- nothing before bears the name
  none_before : (a b : List Sited) → (AllHold (all_owed a) → Bears (all_owed a) x → Named f x) → IsOnce (a ++ b) → AllHold (all_owed a)
      → FirstFalse (all_owed b) x → Fresh → ¬ Bears (all_owed a) x
  none_before a b settled once all late fresh h = ⊎_elim (λ tw. once tw (before_across a b x x all h late)) (λ never. never (settled all h)) fresh

  leads_join : (a b : List Sited) → Leads a → (AllHold (all_owed a) → Leads b) → Leads (a ++ b)
  leads_join a b front rest = record {
    settled = λ all h. let both = owed_hold a b all in ⊎_elim (front.settled both.0) ((rest both.0).settled both.1) (owed_bears a b x h);
    found = λ once h. ⊎_elim
        (λ early. let c = front.found (λ tw k. once tw (before_front a b x x k)) early in (lies_left a b c.0, c.1))
        (λ late.
        let c = (rest late.0).found (λ tw k. once tw (before_rest a b x x late.0 k)) late.1 in
        (lies_right a b late.0 (none_before a b front.settled once late.0 late.1 c.1) c.0, c.1))
        (owed_false a b x h);
  }

  leads_on : (p : Option Path) (os : List Obligation) → (AllHold os → Bears os x → Named f x) → (FirstFalse os x → Fresh) → Leads (on p os)
  leads_on p os settled fresh = record {
    settled = λ all h. settled (on_hold p os all) (on_bears p os x h);
    found = λ once h.
        let bad = on_false p os x h in
        (record { path = p; leads = path_on x p os (first_bears os x bad); lies = lies_on x p os bad }, fresh bad);
  }

  leads_after : {A : Type 0} (g : List A → A → List Sited) (all : List A)
      → ((before : List A) (y : A) (rest : List A) → before ++ y ∷ rest ≡ all → Leads (g before y))
      → (before xs : List A) → before ++ xs ≡ all → Leads (sited_after g before xs)
  leads_after g all each before [] e = leads_none
  leads_after g all each before (y ∷ ys) e =
      leads_join (g before y) (sited_after g (before ++ y ∷ []) ys) (each before y ys e)
      (λ h. leads_after g all each (before ++ y ∷ []) ys (append_assoc before (y ∷ []) ys ∙ e))

  -- ---- the tuples of a loop

  leads_tuple : (m : ℕ) (p : Path) → NamesKind «loop» f (pos m) → (before : List LoopTuple) (t : LoopTuple) (rest : List LoopTuple)
      → before ++ t ∷ rest ≡ tuples f (pos m) → Leads (tuples_sited f p (pos m) before t)
  unfolding tuples_sited tuple_places
  leads_tuple m p nk before t rest e =
      let there = seam before rest t (tuples f (pos m)) e in
      subst (λ item. Leads (on (Some p) (tuple_at f (pos m) item t))) (next before)
      (leads_on (Some p) (tuple_at f (pos m) (suc (length before)) t) (tuple_settles f x m (length before) t nk there)
      (λ h. inr (tuple_fresh f x m (length before) t nk there h)))

  leads_tuples : (p : Path) (l : ℤ) → NamesKind «loop» f l → Leads (sited_after (tuples_sited f p l) [] (tuples f l))
  leads_tuples p (negsuc m) nk = absurd nk
  leads_tuples p (pos m) nk = leads_after (tuples_sited f p (pos m)) (tuples f (pos m)) (leads_tuple m p nk) [] (tuples f (pos m)) refl

  -- ---- the loops of a face

  leads_loop : (m : ℕ) (p : Path) (used : List ℤ) → NamesKind face f (pos m) → (before : List ℤ) (l : ℤ) (rest : List ℤ)
      → before ++ l ∷ rest ≡ loops f (pos m) → Leads (loops_sited f p (pos m) used before l)
  unfolding loops_sited
  leads_loop m p used nk before l rest e =
      let there = seam before rest l (loops f (pos m)) e in
      let known = used ++ before in
      let item = suc (length before) in
      let own = naming_places f (pos m) item «loop» known l in
      subst (λ i. Leads (loop_sited f p (pos m) i known l)) (next before)
      (leads_join (on (Some p) own) (sited_after (tuples_sited f (in_loop p l item) l) [] (tuples f l))
      (leads_on (Some p) own (loop_settles f x m (length before) known l nk there) (loop_fresh f x m (length before) known l nk there))
      (λ held. leads_tuples (in_loop p l item) l (on_hold (Some p) own held).1.0))

  leads_loops : (p : Path) (used : List ℤ) (c : ℤ) → NamesKind face f c → Leads (sited_after (loops_sited f p c used) [] (loops f c))
  leads_loops p used (negsuc m) nk = absurd nk
  leads_loops p used (pos m) nk = leads_after (loops_sited f p (pos m) used) (loops f (pos m)) (leads_loop m p used nk) [] (loops f (pos m)) refl

  -- ---- the faces of a shell

  leads_face : (m : ℕ) (p : Path) (used : List ℤ) → NamesKind shell f (pos m) → (before : List (ℤ × Bool)) (c : ℤ × Bool) (rest : List (ℤ × Bool))
      → before ++ c ∷ rest ≡ faces f (pos m) → Leads (faces_sited f p (pos m) used before c)
  unfolding faces_sited
  leads_face m p used nk before c rest e =
      let there = seam before rest c (faces f (pos m)) e in
      let known = used ++ numbers before in
      let item = suc (length before) in
      let own = face_naming f (pos m) item known c.0 in
      let inner = flat_map (loops f) known in
      subst (λ i. Leads (face_sited f p (pos m) i known c.0)) (next before)
      (leads_join (on (Some p) own) (sited_after (loops_sited f (in_face p c.0 item) c.0 inner) [] (loops f c.0))
      (leads_on (Some p) own (face_settles f x m (length before) known c nk there) (face_fresh f x m (length before) known c nk there))
      (λ held. leads_loops (in_face p c.0 item) inner c.0 (on_hold (Some p) own held).1.0))

  leads_faces : (p : Path) (used : List ℤ) (s : ℤ) → NamesKind shell f s → Leads (sited_after (faces_sited f p s used) [] (faces f s))
  leads_faces p used (negsuc m) nk = absurd nk
  leads_faces p used (pos m) nk = leads_after (faces_sited f p (pos m) used) (faces f (pos m)) (leads_face m p used nk) [] (faces f (pos m)) refl

  -- ---- the shells of a solid

  leads_shell : (m : ℕ) (p : Path) → NamesKind solid f (pos m) → (before : List (ℤ × Bool)) (s : ℤ × Bool) (rest : List (ℤ × Bool))
      → before ++ s ∷ rest ≡ shells f (pos m) → Leads (shells_sited f p (pos m) before s)
  unfolding shells_sited
  leads_shell m p nk before s rest e =
      let there = seam before rest s (shells f (pos m)) e in
      let known = numbers before in
      let item = suc (length before) in
      let own = naming_places f (pos m) item shell known s.0 in
      let inner = flat_map (λ b. numbers (faces f b)) known in
      subst (λ i. Leads (shell_sited f p (pos m) i known s.0)) (next before)
      (leads_join (on (Some p) own) (sited_after (faces_sited f (in_shell p s.0 item) s.0 inner) [] (faces f s.0))
      (leads_on (Some p) own (shell_settles f x m (length before) known s nk there) (shell_fresh f x m (length before) known s nk there))
      (λ held. leads_faces (in_shell p s.0 item) inner s.0 (on_hold (Some p) own held).1.0))

  leads_shells : (m : ℕ) → NamesKind solid f (pos m) → Leads (sited_after (shells_sited f in_solid (pos m)) [] (shells f (pos m)))
  leads_shells m nk = leads_after (shells_sited f in_solid (pos m)) (shells f (pos m)) (leads_shell m in_solid nk) [] (shells f (pos m)) refl

  -- ---- the solid

  abbrev entry : ℕ → List Obligation
  entry n = entry_places f (pos n) 0 solid (pos n)

  abbrev layout : ℕ → List Obligation
  layout n = obligation rule.BadLayout n 0 (HasRecordOf solid f (pos n)) ∷ []

  abbrev head : ℕ → List Sited
  head n = on None (entry n) ++ on (Some in_solid) (layout n)

  head_lies : (n : ℕ) → FirstFalse (all_owed (head n)) x → Lies (head n)
  head_lies n h =
      ⊎_elim (λ a. lies_left (on None (entry n)) (on (Some in_solid) (layout n)) (on_lies None (entry n) a))
      (λ r. lies_right (on None (entry n)) (on (Some in_solid) (layout n)) r.0 (other r.1) (on_lies (Some in_solid) (layout n) r.1))
      (owed_false (on None (entry n)) (on (Some in_solid) (layout n)) x h)
    where
      on_lies : (p : Option Path) (os : List Obligation) → FirstFalse (all_owed (on p os)) x → Lies (on p os)
      on_lies p os h =
          let bad = on_false p os x h in
          record { path = p; leads = path_on x p os (first_bears os x bad); lies = lies_on x p os bad }

      is_layout : FirstFalse (all_owed (on (Some in_solid) (layout n))) x → x.rule ≡ rule.BadLayout
      is_layout h = ⊎_elim (λ a. ap (λ (y : Failing). y.rule) a.1) (λ b. absurd b.1) h

      other : FirstFalse (all_owed (on (Some in_solid) (layout n))) x → ¬ Bears (all_owed (on None (entry n))) x
      other late b =
          ⊎_elim (λ e. let g : rule.NoEntry ≡ rule.BadLayout = sym (ap (λ (y : Failing). y.rule) e) ∙ is_layout late in cc)
          (λ r. ⊎_elim (λ e. let g : rule.WrongKind ≡ rule.BadLayout = sym (ap (λ (y : Failing). y.rule) e) ∙ is_layout late in cc) (λ q. q) r) b

  sited_lies : (n : ℕ) → IsOnce (sited f n) → FirstFalse (all_owed (sited f n)) x → Lies (sited f n)
  unfolding sited
  sited_lies n once h =
      let rest = sited_after (shells_sited f in_solid (pos n)) [] (shells f (pos n)) in
      ⊎_elim (λ a. lies_left (head n) rest (head_lies n a))
      (λ r.
      let c = (leads_shells n r.0.1.0).found (λ tw k. once tw (before_rest (head n) rest x x r.0 k)) r.1 in
      lies_right (head n) rest r.0 (none_before (head n) rest (λ all b. whole_named f x n all.1.0 all.1.1.0 b) once r.0 r.1 c.1) c.0)
      (owed_false (head n) rest x h)

pub paths_lead_to_false : PathsLeadToFalse
paths_lead_to_false f n x path h leads =
    let same = same_sited f n in
    let c = sited_lies f x n (λ tw k. places_once f x tw n (before_same (all_owed (sited f n)) (places f n) x x same k))
    (same_false (all_owed (sited f n)) (places f n) x same h) in
    subst (LiesOn x (sited f n)) (path_one x (sited f n) c.path path c.leads leads) c.lies
