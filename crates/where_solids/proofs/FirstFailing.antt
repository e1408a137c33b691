-- The first that fails in a shell, or that nothing does.
use Rattle.std.specs.Prelude.{◌≡◌, ◌⊎◌, ◌<◌, ◌≤◌, min, ℕ, zero, suc, ◌+◌, List, [], ◌∷◌, ◌++◌, length, map, Option, Some, None, MatchOption, slice_get}
use Rattle.std.proofs.Common.{refl, sym, ap, ◌∙◌, subst, arith, inl, inr, get_or, drop}
use Rattle.std.proofs.lemmas.List.{drop_all}
use Rattle.std.proofs.Math.Seq.{drop-cons}
use Rattle.solid_data.specs.Numbering.{IsNumberedSolid}
use Rattle.solid_data.specs.Obligations.{AllHold, FirstFalse}
use Rattle.solid_data.specs.SolidData.{SolidData}
use Rattle.solid_data.specs.declared.solid.FaceUse.{FaceUse}
use Rattle.solid_data.specs.declared.solid.Shell.{Shell}
use Rattle.solid_data.specs.declared.verdict.Failing.{Failing}
use Rattle.solid_data.specs.declared.verdict.Rule.TheVariants.{Unreached}
use Rattle.solid_faults.specs.declared.fan.Unlinked.{Unlinked}
use Rattle.solid_data.proofs.Decisions.{Decided, decided_within}
use Rattle.solid_data.proofs.Members.{has_get}
use Rattle.shell_rules.specs.ShellObligations.{shell_obligations}
use Rattle.edge_uses.specs.ShellRows.{ShellRows, shell_rows}
use Rattle.solid_faults.specs.Edges.{shared_failing, unpaired_failing}
use Rattle.solid_faults.specs.Faults.{AreFaults, AreLinked, AreLinkings, Faults, IsFaultless, Linking, failing_of, failing_vertices}
use Rattle.solid_faults.specs.Fans.{unlinked_failing}
use Rattle.solid_faults.specs.Gaps.{gap_failing}
use Rattle.solid_faults.specs.Parts.{apart_from, failing_faces}
use Rattle.solid_faults.proofs.Definite.{faultless_holds, first_named, map_none}

abbrev pub Firsts : List Failing → Option Failing → Type 0
Firsts xs o = MatchOption o (xs ≡ []) (λ y. (ys : List Failing) × (xs ≡ y ∷ ys))

left_none : {A : Type 0} (xs ys : List A) → xs ++ ys ≡ [] → xs ≡ []
left_none [] ys e = refl
left_none (x ∷ xs) ys e = absurd cc

right_none : {A : Type 0} (xs ys : List A) → xs ++ ys ≡ [] → ys ≡ []
right_none [] ys e = e
right_none (x ∷ xs) ys e = absurd cc

none_apart : (fs : List FaceUse) (ps : List ℕ) (i : ℕ) → length fs ≡ length ps → failing_faces fs ps ≡ [] → apart_from i ps ≡ []
none_apart [] [] i long e = refl
none_apart [] (p ∷ ps) i long e = absurd (omega (arith, long))
none_apart (f ∷ fs) [] i long e = refl
none_apart (f ∷ fs) (zero ∷ ps) i long e = none_apart fs ps (i + 1) (omega (arith, long)) e
none_apart (f ∷ fs) (suc p ∷ ps) i long e = absurd cc

faces_counted : (s : SolidData) (h : Shell) → (shell_rows s h).face_count ≡ length h.faces
unfolding shell_rows
faces_counted s h = refl

linked : (s : SolidData) (d : ShellRows) (gaps : _) (unpaired : _) (o : Option Linking) → AreLinkings d gaps unpaired o → gaps ≡ [] → unpaired ≡ []
    → failing_vertices s o ≡ [] → AreLinked o
linked s d gaps unpaired None h a b e = absurd (h (a, b))
linked s d gaps unpaired (Some l) h a b e = map_none (unlinked_failing s) l.unlinked e

faultless : (s : SolidData) (k : ℕ) (h : Shell) (x : Faults) → AreFaults s k h x → failing_of s h x ≡ [] → IsFaultless x
faultless s k h x faults e =
    let gaps = map gap_failing x.gaps in
    let pairs = map (unpaired_failing s) x.unpaired in
    let faces = failing_faces h.faces x.firsts in
    let vertices = failing_vertices s x.linking in
    let shared = map (shared_failing s) x.shared in
    let four : gaps ++ pairs ++ faces ++ vertices ≡ [] = left_none (gaps ++ pairs ++ faces ++ vertices) shared e in
    let three : gaps ++ pairs ++ faces ≡ [] = left_none (gaps ++ pairs ++ faces) vertices four in
    let two : gaps ++ pairs ≡ [] = left_none (gaps ++ pairs) faces three in
    let no_gap : x.gaps ≡ [] = map_none gap_failing x.gaps (left_none gaps pairs two) in
    let no_edge : x.unpaired ≡ [] = map_none (unpaired_failing s) x.unpaired (right_none gaps pairs two) in
    record {
      gaps = no_gap;
      unpaired = no_edge;
      one_part = none_apart h.faces x.firsts 0 (sym (faces_counted s h) ∙ sym faults.firsts.each) (right_none (gaps ++ pairs) faces three);
      linked = linked s (shell_rows s h) x.gaps x.unpaired x.linking faults.linking no_gap no_edge (right_none (gaps ++ pairs ++ faces) vertices four);
      shared = map_none (shared_failing s) x.shared (right_none (gaps ++ pairs ++ faces ++ vertices) shared e);
    }

-- what is found of a shell is the first of its obligations that is false
pub first_false : (s : SolidData) (k : ℕ) (h : Shell) (x : Faults) (o : Option Failing) → IsNumberedSolid s → slice_get s.shells k ≡ Some h → AreFaults s k h x
    → Firsts (failing_of s h x) o
    → MatchOption o (AllHold (shell_obligations s (k, h))) (FirstFalse (shell_obligations s (k, h)))
first_false s k h x None numbered at faults e = faultless_holds s k h x numbered (has_get s.shells k h at) faults (faultless s k h x faults e)
first_false s k h x (Some y) numbered at faults e = first_named s k h x numbered (has_get s.shells k h at) faults y e.0 e.1

-- ---- of several lists

pub first_here : (xs ys : List Failing) (y : Failing) → (zs : List Failing) × (xs ≡ y ∷ zs) → (zs : List Failing) × (xs ++ ys ≡ y ∷ zs)
first_here xs ys y h = (h.0 ++ ys, ap (λ xs. xs ++ ys) h.1)

pub first_later : (xs ys : List Failing) (o : Option Failing) → xs ≡ [] → Firsts ys o → Firsts (xs ++ ys) o
first_later xs ys o none h = subst (λ xs. Firsts (xs ++ ys) o) (sym none) h

both_none : {A : Type 0} (xs ys : List A) → xs ≡ [] → ys ≡ [] → xs ++ ys ≡ []
both_none xs ys e f = ap (λ zs. zs ++ ys) e ∙ f

-- the first of a list's items, where the list isn't empty
pub first_item : {A B : Type 0} (f : A → B) (xs : List A) (d : A) (y : B) → 1 ≤ length xs → y ≡ f (get_or xs 0 d) → (ys : List B) × (map f xs ≡ y ∷ ys)
first_item f [] d y some is = absurd (omega (arith, some))
first_item f (x ∷ xs) d y some is = (map f xs, ap (λ z. z ∷ map f xs) (sym is))

pub first_unlinked : (s : SolidData) (l : Linking) (us : List Unlinked) (d : Unlinked) (y : Failing) → us ≡ l.unlinked → 1 ≤ length us
    → y ≡ unlinked_failing s (get_or us 0 d) → (ys : List Failing) × (failing_vertices s (Some l) ≡ y ∷ ys)
first_unlinked s l us d y same some is = subst (λ vs. (ys : List Failing) × (map (unlinked_failing s) vs ≡ y ∷ ys)) same
    (first_item (unlinked_failing s) us d y some is)

apart_split : (fs : List FaceUse) (ps : List ℕ) (i : ℕ) (d : FaceUse) → i < length fs → i < length ps
    → failing_faces (drop i fs) (drop i ps) ≡ failing_faces (get_or fs i d ∷ drop (i + 1) fs) (get_or ps i 0 ∷ drop (i + 1) ps)
apart_split fs ps i d in_fs in_ps =
    let more : suc i ≡ i + 1 = omega arith in
    let faces : drop i fs ≡ get_or fs i d ∷ drop (i + 1) fs = drop-cons fs i d in_fs ∙ ap (λ n. get_or fs i d ∷ drop n fs) more in
    let firsts : drop i ps ≡ get_or ps i 0 ∷ drop (i + 1) ps = drop-cons ps i 0 in_ps ∙ ap (λ n. get_or ps i 0 ∷ drop n ps) more in
    ap (λ xs. failing_faces xs (drop i ps)) faces ∙ ap (failing_faces (get_or fs i d ∷ drop (i + 1) fs)) firsts

pub apart_here : (fs : List FaceUse) (ps : List ℕ) (i : ℕ) (d : FaceUse) → i < length fs → i < length ps → (get_or ps i 0 ≡ 0 → ⊥)
    → failing_faces (drop i fs) (drop i ps) ≡ failing_faces fs ps
    → (ys : List Failing) × (failing_faces fs ps ≡ record { rule = Unreached; entity = (get_or fs i d).entity; place = 0 } ∷ ys)
apart_here fs ps i d in_fs in_ps some all = by_first (get_or ps i 0) refl
  where
    by_first : (p : ℕ) → get_or ps i 0 ≡ p
        → (ys : List Failing) × (failing_faces fs ps ≡ record { rule = Unreached; entity = (get_or fs i d).entity; place = 0 } ∷ ys)
    by_first zero e = absurd (some e)
    by_first (suc p) e = (
      failing_faces (drop (i + 1) fs) (drop (i + 1) ps),
      sym all
          ∙ (apart_split fs ps i d in_fs in_ps ∙ ap (λ n. failing_faces (get_or fs i d ∷ drop (i + 1) fs) (n ∷ drop (i + 1) ps)) e),
    )

pub apart_next : (fs : List FaceUse) (ps : List ℕ) (i : ℕ) (d : FaceUse) → i < length fs → i < length ps → get_or ps i 0 ≡ 0
    → failing_faces (drop i fs) (drop i ps) ≡ failing_faces fs ps
    → failing_faces (drop (i + 1) fs) (drop (i + 1) ps) ≡ failing_faces fs ps
apart_next fs ps i d in_fs in_ps none all = ap (λ n. failing_faces (get_or fs i d ∷ drop (i + 1) fs) (n ∷ drop (i + 1) ps)) (sym none)
    ∙ (sym (apart_split fs ps i d in_fs in_ps) ∙ all)

none_left : (fs : List FaceUse) → failing_faces fs [] ≡ []
none_left [] = refl
none_left (f ∷ fs) = refl

pub apart_done : (fs : List FaceUse) (ps : List ℕ) (i : ℕ) (all : List Failing) → (length fs ≤ i) ⊎ (length ps ≤ i)
    → failing_faces (drop i fs) (drop i ps) ≡ all → all ≡ []
apart_done fs ps i all (inl past) e = sym e ∙ ap (λ xs. failing_faces xs (drop i ps)) (drop_all i fs past)
apart_done fs ps i all (inr past) e = sym e ∙ (ap (failing_faces (drop i fs)) (drop_all i ps past) ∙ none_left (drop i fs))

pub past : (n m k i : ℕ) → k ≡ min n m → k ≤ i → (n ≤ i) ⊎ (m ≤ i)
past n m k i is le = by_order (decided_within n i)
  where
    by_order : Decided (n ≤ i) → (n ≤ i) ⊎ (m ≤ i)
    by_order (inl low) = inl low
    by_order (inr high) = inr (omega (arith, is, le, high))

abbrev Begins : List Failing → Failing → Type 0
Begins xs y = (ys : List Failing) × (xs ≡ y ∷ ys)

behind : (xs zs : List Failing) (y : Failing) → xs ≡ [] → Begins zs y → Begins (xs ++ zs) y
behind xs zs y none h = (h.0, ap (λ xs. xs ++ zs) none ∙ h.1)

module _ (s : SolidData) (h : Shell) (x : Faults) (y : Failing) where
  pub gap_first : (ys : List Failing) × (map gap_failing x.gaps ≡ y ∷ ys) → (ys : List Failing) × (failing_of s h x ≡ y ∷ ys)
  gap_first b =
      let p = map gap_failing x.gaps in
      let q = map (unpaired_failing s) x.unpaired in
      let r = failing_faces h.faces x.firsts in
      let t = failing_vertices s x.linking in
      first_here (p ++ q ++ r ++ t) (map (shared_failing s) x.shared) y (first_here (p ++ q ++ r) t y (first_here (p ++ q) r y (first_here p q y b)))

  pub pair_first : map gap_failing x.gaps ≡ [] → (ys : List Failing) × (map (unpaired_failing s) x.unpaired ≡ y ∷ ys)
      → (ys : List Failing) × (failing_of s h x ≡ y ∷ ys)
  pair_first none b =
      let p = map gap_failing x.gaps in
      let q = map (unpaired_failing s) x.unpaired in
      let r = failing_faces h.faces x.firsts in
      let t = failing_vertices s x.linking in
      first_here (p ++ q ++ r ++ t) (map (shared_failing s) x.shared) y (first_here (p ++ q ++ r) t y (first_here (p ++ q) r y (behind p q y none b)))

  pub face_first : map gap_failing x.gaps ≡ [] → map (unpaired_failing s) x.unpaired ≡ [] → (ys : List Failing) × (failing_faces h.faces x.firsts ≡ y ∷ ys)
      → (ys : List Failing) × (failing_of s h x ≡ y ∷ ys)
  face_first none no_pair b =
      let p = map gap_failing x.gaps in
      let q = map (unpaired_failing s) x.unpaired in
      let r = failing_faces h.faces x.firsts in
      let t = failing_vertices s x.linking in
      first_here (p ++ q ++ r ++ t) (map (shared_failing s) x.shared) y (first_here (p ++ q ++ r) t y (behind (p ++ q) r y (both_none p q none no_pair) b))

  pub vertex_first : map gap_failing x.gaps ≡ [] → map (unpaired_failing s) x.unpaired ≡ [] → failing_faces h.faces x.firsts ≡ []
      → (ys : List Failing) × (failing_vertices s x.linking ≡ y ∷ ys)
      → (ys : List Failing) × (failing_of s h x ≡ y ∷ ys)
  vertex_first none no_pair no_face b =
      let p = map gap_failing x.gaps in
      let q = map (unpaired_failing s) x.unpaired in
      let r = failing_faces h.faces x.firsts in
      let t = failing_vertices s x.linking in
      first_here (p ++ q ++ r ++ t) (map (shared_failing s) x.shared) y (behind (p ++ q ++ r) t y (both_none (p ++ q) r (both_none p q none no_pair) no_face) b)

pub shared_first : (s : SolidData) (h : Shell) (x : Faults) (o : Option Failing) → map gap_failing x.gaps ≡ [] → map (unpaired_failing s) x.unpaired ≡ []
    → failing_faces h.faces x.firsts ≡ [] → failing_vertices s x.linking ≡ [] → Firsts (map (shared_failing s) x.shared) o → Firsts (failing_of s h x) o
shared_first s h x o none no_pair no_face no_vertex b =
    let p = map gap_failing x.gaps in
    let q = map (unpaired_failing s) x.unpaired in
    let r = failing_faces h.faces x.firsts in
    let t = failing_vertices s x.linking in
    first_later (p ++ q ++ r ++ t) (map (shared_failing s) x.shared) o
    (both_none (p ++ q ++ r) t (both_none (p ++ q) r (both_none p q none no_pair) no_face) no_vertex) b
