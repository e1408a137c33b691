-- Rows that reach all faces breadth first are determined.
use Rattle.std.specs.Prelude.{◌≡◌, ◌==◌, ◌||◌, ◌⊎◌, ◌<◌, ℕ, Bool, true, false, cond, List, [], ◌∷◌, ◌++◌, length, map, flat_map, filter, if◌then◌else◌}
use Rattle.std.specs.List.{list_any}
use Rattle.std.proofs.Common.{refl, sym, ◌∙◌, ap, subst, arith, inl, inr, ⊎_elim, get_or, drop, append_assoc}
use Rattle.std.proofs.lemmas.Bool.{eqb-true, eq-eqb}
use Rattle.std.proofs.lemmas.List.{map-append, append_cancel_left, ext_get_or}
use Rattle.std.proofs.lemmas.Grind.{flat_map-append}
use Rattle.std.proofs.lemmas.Option.{slice_get_within, slice_get-get_or}
use Rattle.solid_data.specs.Ring.{numbers_from}
use Rattle.solid_data.proofs.Members.{Has, Has-from_Contains, Contains-from_Has, has_left, has_right, has_last, has_flat_map, map_has}
use Rattle.solid_data.proofs.Occurring.{number_within}
use Rattle.edge_uses.specs.ShellRows.{ShellRows}
use Rattle.edge_uses.specs.RowRelations.{AreMates, OnFace}
use Rattle.edge_uses.specs.Mates.{HaveMates}
use Rattle.edge_uses.proofs.Turn.{one_mate, paired_rows}
use Rattle.edge_uses.proofs.Turns.{mates_back}
use Rattle.shell_reach.specs.Reaching.{ReachesOne, ReachFrom, face_of, across, on_new_faces}
use Rattle.shell_reach.specs.Laws.{OneReachOrder}
use Rattle.shell_reach.proofs.Crossings.{face_is, mate_is, on_new_append}

one_mates : (d : ShellRows) (a b : List ℕ) → HaveMates d a → HaveMates d b → a ≡ b
one_mates d a b h k =
    ext_get_or 0 a b (h.each ∙ sym k.each)
    (λ i low. one_mate d (paired_rows d h.whole) i (get_or a i 0) (get_or b i 0) (h.mate i (get_or a i 0) (slice_get-get_or a i 0 low))
    (k.mate i (get_or b i 0) (slice_get-get_or b i 0 (omega (arith, low, h.each, k.each)))))

pub passes : (p : ℕ → Bool) (xs : List ℕ) (x : ℕ) → Has xs x → p x ≡ true → Has (filter p xs) x
passes p [] x h e = absurd h
passes p (y ∷ xs) x (inl same) e = subst (λ b. Has (cond b (y ∷ filter p xs) (filter p xs)) x) (sym (ap p same ∙ e)) (inl same)
passes p (y ∷ xs) x (inr h) e = by_test (p y) (passes p xs x h e)
  where
    by_test : (b : Bool) → Has (filter p xs) x → Has (cond b (y ∷ filter p xs) (filter p xs)) x
    by_test true m = inr m
    by_test false m = m

-- a row is across the face of its mate
is_across : (d : ShellRows) (mates : List ℕ) (from r m : ℕ) → HaveMates d mates → AreMates d r m → OnFace d from m → Has (across d mates from) r
is_across d mates from r m have pair on =
    let low : m < length d.rows = slice_get_within d.rows m pair.mate pair.at_m in
    let there : Has (filter (λ x. face_of d x == from) (numbers_from 0 (length d.rows))) m =
    passes (λ x. face_of d x == from) (numbers_from 0 (length d.rows)) m (number_within 0 (length d.rows) m (omega arith) (omega (arith, low)))
    (eq-eqb (face_of d m) from (face_is d from m on)) in
    subst (Has (across d mates from)) (sym (mate_is d mates m r have (mates_back d r m pair)))
    (map_has (λ x. get_or mates x 0) (filter (λ x. face_of d x == from) (numbers_from 0 (length d.rows))) m there)

has_any : (n : ℕ) (ids : List ℕ) → list_any (λ m. m == n) ids ≡ true → Has ids n
has_any n [] h = absurd cc
has_any n (m ∷ ids) h = by_test (m == n) refl h (has_any n ids)
  where
    by_test : (b : Bool) → (m == n) ≡ b → (b || list_any (λ k. k == n) ids) ≡ true → (list_any (λ k. k == n) ids ≡ true → Has ids n) → (m ≡ n) ⊎ Has ids n
    by_test true e t later = inl (eqb-true m n e)
    by_test false e t later = inr (later t)

-- the face of each row is known, or that of a row that is kept
faces_kept : (face : ℕ → ℕ) (known xs : List ℕ) (x : ℕ) → Has xs x → Has (known ++ map face (on_new_faces face known xs)) (face x)
faces_kept face known [] x h = absurd h
faces_kept face known (y ∷ xs) x h = by_test (list_any (λ f. f == face y) known) refl h (faces_kept face known xs x)
    (faces_kept face (known ++ face y ∷ []) xs x)
  where
    by_test : (b : Bool) → list_any (λ f. f == face y) known ≡ b → (y ≡ x) ⊎ Has xs x
        → (Has xs x → Has (known ++ map face (on_new_faces face known xs)) (face x))
        → (Has xs x → Has ((known ++ face y ∷ []) ++ map face (on_new_faces face (known ++ face y ∷ []) xs)) (face x))
        → Has (known ++ map face (if b then on_new_faces face known xs else y ∷ on_new_faces face (known ++ face y ∷ []) xs)) (face x)
    by_test true e (inl same) old new = has_left known (map face (on_new_faces face known xs)) (face x)
        (subst (λ z. Has known (face z)) same (has_any (face y) known e))
    by_test true e (inr m) old new = old m
    by_test false e (inl same) old new = has_right known (face y ∷ map face (on_new_faces face (known ++ face y ∷ []) xs)) (face x) (inl (ap face same))
    by_test false e (inr m) old new = subst (λ l. Has l (face x)) (append_assoc known (face y ∷ []) (map face (on_new_faces face (known ++ face y ∷ []) xs)))
        (new m)

-- Of two ways to cut a list, the second cuts behind the first, or the first goes on from the second.
split : (p q : List ℕ) (x : ℕ) (xs t : List ℕ) → p ++ x ∷ xs ≡ q ++ t → ((r : List ℕ) × (q ≡ p ++ x ∷ r)) ⊎ ((r : List ℕ) × (p ≡ q ++ r))
split p [] x xs t e = inr (p, refl)
split [] (y ∷ q) x xs t e = let same : y ≡ x = ap (λ l. get_or l 0 0) (sym e) in inl (q, ap (λ z. z ∷ q) same)
split (z ∷ p) (y ∷ q) x xs t e =
    let same : y ≡ z = ap (λ l. get_or l 0 0) (sym e) in
    ⊎_elim (λ a. inl (a.0, ap (λ w. w ∷ q) same ∙ ap (λ l. z ∷ l) a.1)) (λ b. inr (b.0, ap (λ w. w ∷ p) (sym same) ∙ ap (λ l. y ∷ l) b.1))
    (split p q x xs t (ap (drop 1) e))

-- the rows that are kept when all rows across the faces of these rows are crossed
abbrev kept_of : ShellRows → List ℕ → List ℕ → List ℕ
kept_of d mates rows = on_new_faces (face_of d) (0 ∷ []) (flat_map (across d mates) (0 ∷ map (face_of d) rows))

-- the row behind the first ones is among those that are kept for these
next_kept : (d : ShellRows) (mates p known : List ℕ) (x : ℕ) (xs : List ℕ) (face : ℕ) → HaveMates d mates → p ++ x ∷ xs ≡ kept_of d mates (p ++ x ∷ xs)
    → ReachesOne d known x face
    → ((g : ℕ) → Has known g → Has (0 ∷ map (face_of d) p) g) → ((g : ℕ) → Has (0 ∷ map (face_of d) p) g → Has known g)
    → (r : List ℕ) × (kept_of d mates p ≡ p ++ x ∷ r)
next_kept d mates p known x xs face have order one into back = ⊎_elim (λ a. a) (λ b. absurd (before b.0 b.1)) (split p (kept_of d mates p) x xs more whole)
  where
    crossed : List ℕ
    crossed = flat_map (across d mates) (0 ∷ map (face_of d) p)

    later : List ℕ
    later = flat_map (across d mates) (map (face_of d) (x ∷ xs))

    more : List ℕ
    more = on_new_faces (face_of d) (0 ∷ map (face_of d) (kept_of d mates p)) later

    both : flat_map (across d mates) (0 ∷ map (face_of d) (p ++ x ∷ xs)) ≡ crossed ++ later
    both = ap (λ fs. flat_map (across d mates) (0 ∷ fs)) (map-append (face_of d) p (x ∷ xs)) ∙ flat_map-append (across d mates) (0 ∷ map (face_of d) p)
        (map (face_of d) (x ∷ xs))

    whole : p ++ x ∷ xs ≡ kept_of d mates p ++ more
    whole = order ∙ (ap (on_new_faces (face_of d) (0 ∷ [])) both ∙ on_new_append (face_of d) (0 ∷ []) crossed later)

    there : Has crossed x
    there = has_flat_map (across d mates) (0 ∷ map (face_of d) p) one.from x (into one.from (Has-from_Contains known one.from one.old))
        (is_across d mates one.from x one.mate have one.mates one.on_known)

    before : (r : List ℕ) → p ≡ kept_of d mates p ++ r → ⊥
    before r e =
        let faces : map (face_of d) p ≡ map (face_of d) (kept_of d mates p) ++ map (face_of d) r = ap (map (face_of d)) e
        ∙ map-append (face_of d) (kept_of d mates p) r in
        let old : Has (0 ∷ map (face_of d) (kept_of d mates p)) (face_of d x) = faces_kept (face_of d) (0 ∷ []) crossed x there in
        let all : Has (0 ∷ map (face_of d) p) (face_of d x) =
        subst (λ fs. Has (0 ∷ fs) (face_of d x)) (sym faces) (has_left (0 ∷ map (face_of d) (kept_of d mates p)) (map (face_of d) r) (face_of d x) old) in
        one.new (Contains-from_Has known face (back face (subst (Has (0 ∷ map (face_of d) p)) (face_is d face x one.on_face) all)))

abbrev AreKnown : ShellRows → List ℕ → List ℕ → Type 0
AreKnown d p known = ((g : ℕ) → Has known g → Has (0 ∷ map (face_of d) p) g) × ((g : ℕ) → Has (0 ∷ map (face_of d) p) g → Has known g)

one_more_known : (d : ShellRows) (p known : List ℕ) (x face : ℕ) → face_of d x ≡ face → AreKnown d p known → AreKnown d (p ++ x ∷ []) (face ∷ known)
one_more_known d p known x face is k = (into, back)
  where
    faces : 0 ∷ map (face_of d) (p ++ x ∷ []) ≡ (0 ∷ map (face_of d) p) ++ face ∷ []
    faces = ap (λ fs. 0 ∷ fs) (map-append (face_of d) p (x ∷ [])) ∙ ap (λ f. (0 ∷ map (face_of d) p) ++ f ∷ []) is

    into : (g : ℕ) → (face ≡ g) ⊎ Has known g → Has (0 ∷ map (face_of d) (p ++ x ∷ [])) g
    into g (inl e) = subst (λ fs. Has fs g) (sym faces) (has_right (0 ∷ map (face_of d) p) (face ∷ []) g (inl e))
    into g (inr m) = subst (λ fs. Has fs g) (sym faces) (has_left (0 ∷ map (face_of d) p) (face ∷ []) g (k.0 g m))

    back : (g : ℕ) → Has (0 ∷ map (face_of d) (p ++ x ∷ [])) g → (face ≡ g) ⊎ Has known g
    back g h = ⊎_elim (λ m. inr (k.1 g m)) (λ e. inl e) (has_last (0 ∷ map (face_of d) p) face g (subst (λ fs. Has fs g) faces h))

same_from : (d : ShellRows) (mates p known xs ys : List ℕ) → HaveMates d mates → length xs ≡ length ys → p ++ xs ≡ kept_of d mates (p ++ xs)
    → p ++ ys ≡ kept_of d mates (p ++ ys)
    → ReachFrom d known xs → ReachFrom d known ys → AreKnown d p known → xs ≡ ys
same_from d mates p known [] [] have long order_a order_b reach_a reach_b k = refl
same_from d mates p known [] (b ∷ ys) have long order_a order_b reach_a reach_b k = absurd (omega (arith, long))
same_from d mates p known (a ∷ xs) [] have long order_a order_b reach_a reach_b k = absurd (omega (arith, long))
same_from d mates p known (a ∷ xs) (b ∷ ys) have long order_a order_b (f, one_a, rest_a) (g, one_b, rest_b) k =
    let next_a = next_kept d mates p known a xs f have order_a one_a k.0 k.1 in
    let next_b = next_kept d mates p known b ys g have order_b one_b k.0 k.1 in
    let same : b ≡ a = ap (λ l. get_or l 0 0) (append_cancel_left p (b ∷ next_b.0) (a ∷ next_a.0) (sym next_b.1 ∙ next_a.1)) in
    let face_a : face_of d a ≡ f = face_is d f a one_a.on_face in
    let face : g ≡ f = sym (face_is d g b one_b.on_face) ∙ (ap (face_of d) same ∙ face_a) in
    let shift : (cs : List ℕ) → p ++ a ∷ cs ≡ kept_of d mates (p ++ a ∷ cs) → (p ++ a ∷ []) ++ cs ≡ kept_of d mates ((p ++ a ∷ []) ++ cs) =
    λ cs e. subst (λ l. l ≡ kept_of d mates l) (sym (append_assoc p (a ∷ []) cs)) e in
    let rest : xs ≡ ys =
    same_from d mates (p ++ a ∷ []) (f ∷ known) xs ys have (omega (arith, long)) (shift xs order_a)
    (shift ys (subst (λ z. p ++ z ∷ ys ≡ kept_of d mates (p ++ z ∷ ys)) same order_b))
    rest_a (subst (λ h. ReachFrom d (h ∷ known) ys) face rest_b) (one_more_known d p known a f face_a k) in
    ap (λ l. a ∷ l) rest ∙ ap (λ z. z ∷ ys) (sym same)

pub one_order : OneReachOrder
one_order d a b all_a first_a all_b first_b =
    let same : first_b.mates ≡ first_a.mates = one_mates d first_b.mates first_a.mates first_b.paired first_a.paired in
    same_from d first_a.mates [] (0 ∷ []) a b first_a.paired (all_a.count ∙ sym all_b.count) first_a.order (first_b.order ∙ ap (λ ms. kept_of d ms b) same)
    all_a.order all_b.order ((λ g h. h), (λ g h. h))
