-- Which loop without an edge a line names, where they stand in file order.
use Rattle.std.specs.Prelude.{◌≡◌, ◌<◌, ◌≤◌, ◌+◌, ◌==◌, ◌&&◌, ◌⊎◌, ℕ, zero, suc, Bool, true, false, cond, List, [], ◌∷◌, ◌++◌, length, map, flat_map, find}
use Rattle.std.specs.Prelude.{slice_get, Some, None, ◌^◌, if◌then◌else◌}
use Rattle.std.specs.List.{AllByRecursion, enumerate_from, list_any}
use Rattle.std.proofs.Common.{refl, sym, ◌∙◌, ap, subst, arith, inl, inr, ⊎_elim}
use Rattle.std.proofs.lemmas.Bool.{eq-eqb, eqb-true}
use Rattle.std.proofs.lemmas.Option.{same_Some}
use Rattle.solid_data.proofs.Members.{Has, all_append, all_has, has_append, from_flat_map, All-from, get_some, has_get}
use Rattle.solid_data.proofs.Occurring.{length-numbers}
use Rattle.edge_uses.proofs.Whole.{few_edges, few_vertices}
use Rattle.solid_data.specs.Numbering.{IsNumberedSolid}
use Rattle.solid_data.specs.Ring.{numbers_from}
use Rattle.cert_state.proofs.UseSizes.{some_faces}
use Rattle.solid_data.specs.SolidData.{SolidData, PlacedLoop, same_flag, placed_in_face, placed_loops, shell_edges, shell_vertices, occurring}
use Rattle.solid_data.specs.declared.solid.LoopAt.{LoopAt}
use Rattle.solid_data.specs.declared.solid.Loop.{Loop}
use Rattle.solid_data.specs.declared.solid.LoopUse.{LoopUse}
use Rattle.solid_data.specs.declared.solid.LoopUse.TheVariants.{EdgeUse, VertexUse}
use Rattle.solid_data.specs.declared.solid.FaceUse.{FaceUse}
use Rattle.solid_data.specs.declared.solid.Shell.{Shell}
use Rattle.edge_uses.specs.declared.row.Row.{Row}
use Rattle.edge_uses.specs.Building.{point_in}
use Rattle.edge_uses.specs.Joining.{placed_at}
use Rattle.edge_uses.specs.ShellRows.{ShellRows, shell_rows, rows_of, loop_rows, point_of}
use Rattle.cert_state.specs.CheckState.{Precedes, InFileOrder}
use Rattle.cert_state.specs.Places.{IsNamed, IsBefore, IsNamedAt}
use Rattle.cert_state.specs.Progress.{point_named}

-- Of a half the named one is not.

pub not_low : (points : List (LoopAt × ℕ)) (face place middle : ℕ) (m : LoopAt × ℕ) → InFileOrder points → slice_get points middle ≡ Some m
    → IsBefore m.0 face place
    → (i : ℕ) (p : LoopAt × ℕ) → i < middle + 1 → slice_get points i ≡ Some p → IsNamed p.0 face place → ⊥
not_low points face place middle m order at before i p lt at_i named = by_place (same_or i middle lt)
  where
    same_or : (i n : ℕ) → i < n + 1 → (i < n) ⊎ (i ≡ n)
    same_or zero zero h = inr refl
    same_or zero (suc n) h = inl (omega arith)
    same_or (suc i) zero h = absurd (omega (arith, h))
    same_or (suc i) (suc n) h = ⊎_elim (λ a. inl (omega (arith, a))) (λ b. inr (ap suc b)) (same_or i n (omega (arith, h)))

    by_place : (i < middle) ⊎ (i ≡ middle) → ⊥
    by_place (inl low) =
        let k = order i middle p m low at_i at in
        let f : m.0.face.0 + 1 ≡ face = omega (arith, k.0, before.0, named.0) in
        let g : p.0.place < m.0.place = k.1 (omega (arith, f, named.0)) in
        omega (arith, before.1 f, g, named.1)
    by_place (inr e) =
        let same : p ≡ m = same_Some p m (sym at_i ∙ (ap (slice_get points) e ∙ at)) in
        let f : m.0.face.0 + 1 ≡ face = ap (λ (q : LoopAt × ℕ). q.0.face.0 + 1) (sym same) ∙ named.0 in
        let g : p.0.place ≡ m.0.place = ap (λ (q : LoopAt × ℕ). q.0.place) same in
        omega (arith, before.1 f, named.1, g)

pub not_high : (points : List (LoopAt × ℕ)) (face place middle : ℕ) (m : LoopAt × ℕ) → InFileOrder points → slice_get points middle ≡ Some m
    → (IsNamed m.0 face place → ⊥) → (IsBefore m.0 face place → ⊥)
    → (i : ℕ) (p : LoopAt × ℕ) → middle ≤ i → slice_get points i ≡ Some p → IsNamed p.0 face place → ⊥
not_high points face place middle m order at not_named not_before i p le at_i named = by_place (same_or middle i le)
  where
    same_or : (n i : ℕ) → n ≤ i → (n < i) ⊎ (n ≡ i)
    same_or zero zero h = inr refl
    same_or zero (suc i) h = inl (omega arith)
    same_or (suc n) zero h = absurd (omega (arith, h))
    same_or (suc n) (suc i) h = ⊎_elim (λ a. inl (omega (arith, a))) (λ b. inr (ap suc b)) (same_or n i (omega (arith, h)))

    by_place : (middle < i) ⊎ (middle ≡ i) → ⊥
    by_place (inl low) =
        let k = order middle i m p low at at_i in
        not_before (omega (arith, k.0, named.0), λ e. (let g : m.0.place < p.0.place = k.1 (omega (arith, e, named.0)) in omega (arith, g, named.1)))
    by_place (inr e) =
        let same : p ≡ m = same_Some p m (sym at_i ∙ (ap (slice_get points) (sym e) ∙ at)) in
        not_named (subst (λ (q : LoopAt × ℕ). IsNamed q.0 face place) same named)

abbrev is_named_by : ℕ → ℕ → LoopAt × ℕ → Bool
is_named_by face place p = (p.0.face.0 + 1 == face) && (p.0.place + 1 == place)

named_true : (p : LoopAt × ℕ) (face place : ℕ) → is_named_by face place p ≡ true → IsNamed p.0 face place
named_true p face place h = by_tests (p.0.face.0 + 1 == face) (p.0.place + 1 == place) refl refl h
  where
    by_tests : (a b : Bool) → (p.0.face.0 + 1 == face) ≡ a → (p.0.place + 1 == place) ≡ b → (a && b) ≡ true → IsNamed p.0 face place
    by_tests true true x y h = (eqb-true (p.0.face.0 + 1) face x, eqb-true (p.0.place + 1) place y)
    by_tests true false x y h = absurd cc
    by_tests false b x y h = absurd cc

named_test : (p : LoopAt × ℕ) (face place : ℕ) → IsNamed p.0 face place → is_named_by face place p ≡ true
named_test p face place h = both (p.0.face.0 + 1 == face) (p.0.place + 1 == place) (eq-eqb (p.0.face.0 + 1) face h.0) (eq-eqb (p.0.place + 1) place h.1)
  where
    both : (a b : Bool) → a ≡ true → b ≡ true → (a && b) ≡ true
    both true true x y = refl
    both true false x y = y
    both false b x y = x

find_none : (face place : ℕ) (points : List (LoopAt × ℕ)) → ((i : ℕ) (p : LoopAt × ℕ) → slice_get points i ≡ Some p → IsNamed p.0 face place → ⊥)
    → find (is_named_by face place) points ≡ None
find_none face place [] never = refl
find_none face place (p ∷ points) never = by_test (is_named_by face place p) refl (find_none face place points (λ i q at. never (suc i) q at))
  where
    by_test : (b : Bool) → is_named_by face place p ≡ b → find (is_named_by face place) points ≡ None → cond b (Some p) (find (is_named_by face place) points)
        ≡ None
    by_test true e rest = absurd (never 0 p refl (named_true p face place e))
    by_test false e rest = rest

find_one : (face place : ℕ) (points : List (LoopAt × ℕ)) (i : ℕ) (p : LoopAt × ℕ) → slice_get points i ≡ Some p → IsNamed p.0 face place
    → ((j : ℕ) (q : LoopAt × ℕ) → j < i → slice_get points j ≡ Some q → IsNamed q.0 face place → ⊥) → find (is_named_by face place) points ≡ Some p
find_one face place [] i p at named first = absurd cc
find_one face place (x ∷ points) zero p at named first = ap (λ b. cond b (Some x) (find (is_named_by face place) points))
    (named_test x face place (subst (λ (q : LoopAt × ℕ). IsNamed q.0 face place) (sym (same_Some x p at)) named)) ∙ at
find_one face place (x ∷ points) (suc i) p at named first =
    by_test (is_named_by face place x) refl (find_one face place points i p at named (λ j q lt at_j. first (suc j) q (omega (arith, lt)) at_j))
  where
    by_test : (b : Bool) → is_named_by face place x ≡ b → find (is_named_by face place) points ≡ Some p
        → cond b (Some x) (find (is_named_by face place) points) ≡ Some p
    by_test true e rest = absurd (first 0 x (omega arith) refl (named_true x face place e))
    by_test false e rest = rest

pub none_named : (d : ShellRows) (face place : ℕ) → ((i : ℕ) (p : LoopAt × ℕ) → slice_get d.points i ≡ Some p → IsNamed p.0 face place → ⊥)
    → point_named d face place ≡ None
none_named d face place never = find_none face place d.points never

pub one_named : (d : ShellRows) (face place i : ℕ) (p : LoopAt × ℕ) → InFileOrder d.points → slice_get d.points i ≡ Some p → IsNamed p.0 face place
    → IsNamedAt d face place i
one_named d face place i p order at named = record {
  point = p;
  at_i = at;
  named = find_one face place d.points i p at named (λ j q lt at_j other.
      let k = order j i q p lt at_j at in
      let g : q.0.place < p.0.place = k.1 (omega (arith, other.0, named.0)) in
      omega (arith, g, other.1, named.1));
}

-- The loops of a shell stand in file order, and so do those without an edge.

abbrev Follow : {A : Type 0} → (A → LoopAt) → List A → Type 0
Follow f [] = Unit {0}
Follow f (x ∷ xs) = AllByRecursion (λ y. Precedes (f x) (f y)) xs × Follow f xs

follow_append : {A : Type 0} (f : A → LoopAt) (xs ys : List A) → Follow f xs → Follow f ys → ((x y : A) → Has xs x → Has ys y → Precedes (f x) (f y))
    → Follow f (xs ++ ys)
follow_append f [] ys a b all = b
follow_append f (x ∷ xs) ys a b all = (
  all_append (λ y. Precedes (f x) (f y)) xs ys a.0 (All-from (λ y. Precedes (f x) (f y)) ys (λ y m. all x y (inl refl) m)),
  follow_append f xs ys a.1 b
      (λ z y m k. all z y (inr m) k),
)

follow_at : {A : Type 0} (f : A → LoopAt) (xs : List A) (i j : ℕ) (x y : A) → Follow f xs → i < j → slice_get xs i ≡ Some x → slice_get xs j ≡ Some y
    → Precedes (f x) (f y)
follow_at f [] i j x y h lt at_i at_j = absurd cc
follow_at f (z ∷ xs) i zero x y h lt at_i at_j = absurd (omega (arith, lt))
follow_at f (z ∷ xs) zero (suc j) x y h lt at_i at_j =
    subst (λ w. Precedes (f w) (f y)) (same_Some z x at_i) (all_has (λ w. Precedes (f z) (f w)) xs y h.0 (has_get xs j y at_j))
follow_at f (z ∷ xs) (suc i) (suc j) x y h lt at_i at_j = follow_at f xs i j x y h.1 (omega (arith, lt)) at_i at_j

abbrev at_of : PlacedLoop → LoopAt
at_of p = p.at

in_face : (face : ℕ) (forwards : Bool) (base : ℕ) (ls : List Loop) (p : PlacedLoop) → Has (map (placed_at face forwards) (enumerate_from base ls)) p
    → (p.at.face.0 ≡ face) × (base ≤ p.at.place)
in_face face forwards base [] p h = absurd h
in_face face forwards base (l ∷ ls) p (inl e) =
    (ap (λ (q : PlacedLoop). q.at.face.0) (sym e), (let k : base ≡ p.at.place = ap (λ (q : PlacedLoop). q.at.place) e in omega (arith, k)))
in_face face forwards base (l ∷ ls) p (inr h) = let k = in_face face forwards (base + 1) ls p h in (k.0, omega (arith, k.1))

loops_follow : (face : ℕ) (forwards : Bool) (base : ℕ) (ls : List Loop) → Follow at_of (map (placed_at face forwards) (enumerate_from base ls))
loops_follow face forwards base [] = tt
loops_follow face forwards base (l ∷ ls) = (
  All-from (λ q. Precedes (placed_at face forwards (base, l)).at q.at) (map (placed_at face forwards) (enumerate_from (base + 1) ls))
      (λ q m. let k = in_face face forwards (base + 1) ls q m in (omega (arith, k.0), λ same. omega (arith, k.1))),
  loops_follow face forwards (base + 1) ls,
)

in_faces : (flag : Bool) (base : ℕ) (fs : List FaceUse) (p : PlacedLoop) → Has (flat_map (placed_in_face flag) (enumerate_from base fs)) p → base ≤ p.at.face.0
in_faces flag base [] p h = absurd h
in_faces flag base (f ∷ fs) p h =
    ⊎_elim (λ here. let k = in_face base (same_flag f.flag flag) 0 f.loops p here in omega (arith, k.0))
    (λ there. let k = in_faces flag (base + 1) fs p there in omega (arith, k))
    (has_append (placed_in_face flag (base, f)) (flat_map (placed_in_face flag) (enumerate_from (base + 1) fs)) p h)

faces_follow : (flag : Bool) (base : ℕ) (fs : List FaceUse) → Follow at_of (flat_map (placed_in_face flag) (enumerate_from base fs))
faces_follow flag base [] = tt
faces_follow flag base (f ∷ fs) =
    follow_append at_of (placed_in_face flag (base, f)) (flat_map (placed_in_face flag) (enumerate_from (base + 1) fs))
    (loops_follow base (same_flag f.flag flag) 0 f.loops) (faces_follow flag (base + 1) fs)
    (λ p q m k. let a = in_face base (same_flag f.flag flag) 0 f.loops p m in let b = in_faces flag (base + 1) fs q k
    in (omega (arith, a.0, b), λ same. absurd (omega (arith, same, a.0, b))))

abbrev place_of : LoopAt × ℕ → LoopAt
place_of q = q.0

point_at_loop : (p : PlacedLoop) (us : List LoopUse) (es : List ℕ) (q : LoopAt × ℕ) → Has (point_of p us es) q → q.0 ≡ p.at
point_at_loop p [] [] q h = absurd h
point_at_loop p [] (e ∷ es) q h = absurd h
point_at_loop p (EdgeUse edge along ∷ us) [] q h = absurd h
point_at_loop p (EdgeUse edge along ∷ us) (e ∷ es) q h = absurd h
point_at_loop p (VertexUse vertex ∷ us) [] q (inl e) = ap (λ (x : LoopAt × ℕ). x.0) (sym e)
point_at_loop p (VertexUse vertex ∷ us) [] q (inr h) = absurd h
point_at_loop p (VertexUse vertex ∷ us) (e ∷ es) q h = absurd h

point_follows : (p : PlacedLoop) (us : List LoopUse) (es : List ℕ) → Follow place_of (point_of p us es)
point_follows p [] [] = tt
point_follows p [] (e ∷ es) = tt
point_follows p (EdgeUse edge along ∷ us) [] = tt
point_follows p (EdgeUse edge along ∷ us) (e ∷ es) = tt
point_follows p (VertexUse vertex ∷ us) [] = (tt, tt)
point_follows p (VertexUse vertex ∷ us) (e ∷ es) = tt

points_follow : (s : SolidData) (ps : List PlacedLoop) → Follow at_of ps → Follow place_of (flat_map (point_in s) ps)
points_follow s [] h = tt
points_follow s (p ∷ ps) h =
    follow_append place_of (point_in s p) (flat_map (point_in s) ps) (point_follows p p.loop.uses (edges_in p)) (points_follow s ps h.1)
    (λ x y m k. let from = from_flat_map (point_in s) ps y k in
    let a : x.0 ≡ p.at = point_at_loop p p.loop.uses (edges_in p) x m in
    let b : y.0 ≡ from.0.at = point_at_loop from.0 from.0.loop.uses (edges_in from.0) y from.2 in
    let c : Precedes p.at from.0.at = all_has (λ (q : PlacedLoop). Precedes p.at q.at) ps from.0 h.0 from.1 in
    subst (λ z. Precedes z y.0) (sym a) (subst (Precedes p.at) (sym b) c))
  where
    edges_in : PlacedLoop → List ℕ
    edges_in q = map (λ (r : Row). r.edge.0) (loop_rows s q)

pub points_in_order : (s : SolidData) (shell : Shell) → InFileOrder (shell_rows s shell).points
unfolding shell_rows
points_in_order s shell i j p q lt at_i at_j = follow_at place_of (flat_map (point_in s) (placed_loops shell)) i j p q
    (points_follow s (placed_loops shell) (faces_follow shell.flag 0 shell.faces)) lt at_i at_j

-- Few edges and vertices occur in a shell.

occurring_shorter : (ns ids : List ℕ) → length (occurring ns ids) ≤ length ns
occurring_shorter [] ids = omega arith
occurring_shorter (n ∷ ns) ids = by_test (list_any (λ m. m == n) ids) (occurring_shorter ns ids)
  where
    by_test : (b : Bool) → length (occurring ns ids) ≤ length ns → length (if b then n ∷ occurring ns ids else occurring ns ids) ≤ suc (length ns)
    by_test true h = omega (arith, h)
    by_test false h = omega (arith, h)

pub few_edges_occur : (s : SolidData) (shell : Shell) → IsNumberedSolid s → length (shell_rows s shell).edges < 2 ^ 30
unfolding shell_rows
few_edges_occur s shell numbered =
    omega (arith, few_edges s numbered, occurring_shorter (numbers_from 0 (length s.edges)) (shell_edges shell), length-numbers 0 (length s.edges))

pub few_vertices_occur : (s : SolidData) (shell : Shell) → IsNumberedSolid s → length (shell_rows s shell).vertices < 2 ^ 30
unfolding shell_rows
few_vertices_occur s shell numbered =
    omega (
      arith,
      few_vertices s numbered,
      occurring_shorter (numbers_from 0 (length s.vertices)) (shell_vertices s shell),
      length-numbers 0
          (length s.vertices),
    )

pub faces_of_rows : (s : SolidData) (shell : Shell) → (shell_rows s shell).face_count ≡ length shell.faces
unfolding shell_rows
faces_of_rows s shell = refl

-- what a checker asks of the rows of a shell
pub record CanCheck (d : ShellRows) : Type 0 where
  pub order : InFileOrder d.points
  pub some : 0 < d.face_count
  pub few_edges : length d.edges < 2 ^ 30
  pub few_vertices : length d.vertices < 2 ^ 30

pub can_check : (s : SolidData) (k : ℕ) (d : ShellRows) → IsNumberedSolid s → k < length s.shells → d ≡ rows_of s (slice_get s.shells k) → CanCheck d
can_check s k d numbered lt is_d =
    let h = get_some s.shells k lt in
    subst CanCheck (sym (is_d ∙ ap (rows_of s) h.1)) (record {
      order = points_in_order s h.0;
      some = omega (arith, faces_of_rows s h.0, some_faces s numbered k h.0 h.1);
      few_edges = few_edges_occur s h.0 numbered;
      few_vertices = few_vertices_occur s h.0 numbered;
    })
