-- The vertices that appear in the first shells are the ones below a number.
use Rattle.std.specs.Prelude.{◌≡◌, ◌<◌, ◌≤◌, ◌+◌, ◌-◌, ◌==◌, ◌⊎◌, ℕ, zero, suc, Bool, not, List, [], ◌∷◌, ◌++◌, length, map, flat_map, filter, max, take, drop}
use Rattle.std.specs.Prelude.{slice_get, Some, None}
use Rattle.std.specs.List.{AllByRecursion, enumerate_from}
use Rattle.std.specs.List.Sorted.{IsStrictlyIncreasing}
use Rattle.std.proofs.Common.{refl, sym, ◌∙◌, ap, subst, arith, inl, inr, ⊎_elim, append_assoc, get_or}
use Rattle.std.proofs.lemmas.Grind.{flat_map-append}
use Rattle.std.proofs.lemmas.List.Elements.{filter-append}
use Rattle.std.proofs.lemmas.List.{drop_all, append-nil}
use Rattle.std.proofs.lemmas.Bool.{eqb-true}
use Rattle.std.proofs.lemmas.Option.{same_Some, none-some}
use Rattle.solid_data.specs.Ring.{numbers_from, distinct}
use Rattle.solid_data.specs.Numbering.{IsNumberedSolid}
use Rattle.solid_data.specs.Obligations.{FirstNot}
use Rattle.solid_data.specs.SolidData.{SolidData, PlacedLoop, vertices_used, shell_vertices, placed_in_face, occurring}
use Rattle.solid_data.specs.declared.solid.FaceUse.{FaceUse}
use Rattle.solid_data.specs.declared.solid.Loop.{Loop}
use Rattle.solid_data.specs.declared.solid.LoopUse.{LoopUse}
use Rattle.solid_data.specs.declared.solid.Shell.{Shell}
use Rattle.solid_data.proofs.Members.{Has, Has-from_Contains, Contains-from_Has, Rises, rises, all_has, has_get, All-from, get_some}
use Rattle.solid_data.proofs.Occurring.{occurs, number_below, number_within}
use Rattle.solid_data.proofs.Keys.{to_distinct, from_distinct}
use Rattle.solid_data.proofs.Occurs.{from_occurring}
use Rattle.edge_uses.specs.Before.{AreBelow, above_of, loop_vertices, face_vertices, faces_vertices, IsApart}
use Rattle.edge_uses.specs.Building.{uses_in}
use Rattle.edge_uses.specs.ShellRows.{ShellRows, shell_rows, rows_of}
use Rattle.edge_uses.proofs.Joins.{split_drop}
use Rattle.edge_uses.proofs.Whole.{vertices_known}

-- The greatest of two lists.

pub above-append : (xs ys : List ℕ) → above_of (xs ++ ys) ≡ max (above_of xs) (above_of ys)
above-append [] ys = omega arith
above-append (x ∷ xs) ys = omega (arith, above-append xs ys)

-- what is found so far, and what is left
pub above_more : {A : Type 0} (f : A → List ℕ) (xs : List A) (x : A) (i old new all : ℕ) → i < length xs → get_or xs i x ≡ x
    → max old (above_of (flat_map f (drop i xs))) ≡ all
    → new ≡ max old (above_of (f x)) → max new (above_of (flat_map f (drop (i + 1) xs))) ≡ all
above_more f xs x i old new all lt at h n =
    let e : above_of (flat_map f (drop i xs)) ≡ above_of (f x ++ flat_map f (drop (i + 1) xs)) = ap (λ ys. above_of (flat_map f ys)) (split_drop xs x i lt at)
    in
    omega (arith, h, n, e, above-append (f x) (flat_map f (drop (i + 1) xs)))

pub above_done : {A : Type 0} (f : A → List ℕ) (xs : List A) (i now all : ℕ) → length xs ≤ i → max now (above_of (flat_map f (drop i xs))) ≡ all → now ≡ all
above_done f xs i now all past h =
    let e : above_of (flat_map f (drop i xs)) ≡ 0 = ap (λ ys. above_of (flat_map f ys)) (drop_all i xs past) in
    omega (arith, h, e)

-- The vertices of a shell, face by face.

loops_flat : (s : SolidData) (face : ℕ) (flag : Bool) (i : ℕ) (ls : List Loop)
    → flat_map (vertices_used s)
    (flat_map uses_in (map (λ (l : ℕ × Loop). record { at = record { face = record { 0 = face }; place = l.0 }; forwards = flag; loop = l.1 })
    (enumerate_from i ls))) ≡ flat_map (loop_vertices s) ls
loops_flat s face flag i [] = refl
loops_flat s face flag i (l ∷ ls) =
    let rest : List LoopUse =
    flat_map uses_in (map (λ (l : ℕ × Loop). record { at = record { face = record { 0 = face }; place = l.0 }; forwards = flag; loop = l.1 })
    (enumerate_from (i + 1) ls)) in
    flat_map-append (vertices_used s) l.uses rest ∙ ap (λ vs. loop_vertices s l ++ vs) (loops_flat s face flag (i + 1) ls)

faces_flat : (s : SolidData) (flag : Bool) (i : ℕ) (fs : List FaceUse)
    → flat_map (vertices_used s) (flat_map uses_in (flat_map (placed_in_face flag) (enumerate_from i fs))) ≡ flat_map (face_vertices s) fs
faces_flat s flag i [] = refl
faces_flat s flag i (f ∷ fs) =
    let here : List PlacedLoop = placed_in_face flag (i, f) in
    let rest : List PlacedLoop = flat_map (placed_in_face flag) (enumerate_from (i + 1) fs) in
    ap (flat_map (vertices_used s)) (flat_map-append uses_in here rest)
    ∙ (flat_map-append (vertices_used s) (flat_map uses_in here) (flat_map uses_in rest)
    ∙ (ap (λ vs. vs ++ flat_map (vertices_used s) (flat_map uses_in rest)) (loops_flat s i _ 0 f.loops)
    ∙ ap (λ vs. face_vertices s f ++ vs) (faces_flat s flag (i + 1) fs)))

pub shell_flat : (s : SolidData) (h : Shell) → shell_vertices s h ≡ faces_vertices s h
shell_flat s h = faces_flat s h.flag 0 h.faces

pub shells_more : (s : SolidData) (hs : List Shell) (k : ℕ) (h : Shell) → slice_get hs k ≡ Some h → flat_map (shell_vertices s) (take (k + 1) hs)
    ≡ flat_map (shell_vertices s) (take k hs) ++ shell_vertices s h
shells_more s [] k h at = absurd cc
shells_more s (x ∷ hs) zero h at = append-nil (shell_vertices s x) ∙ ap (λ y. shell_vertices s y) (same_Some x h at)
shells_more s (x ∷ hs) (suc k) h at =
    let e : suc k + 1 ≡ suc (k + 1) = omega arith in
    ap (λ n. flat_map (shell_vertices s) (take n (x ∷ hs))) e
    ∙ (ap (λ ys. shell_vertices s x ++ ys) (shells_more s hs k h at)
    ∙ sym (append_assoc (shell_vertices s x) (flat_map (shell_vertices s) (take k hs)) (shell_vertices s h)))

pub above_next : (s : SolidData) (k old new : ℕ) (h : Shell) → slice_get s.shells k ≡ Some h → old ≡ above_of (flat_map (shell_vertices s) (take k s.shells))
    → new ≡ max old (above_of (shell_vertices s h))
    → new ≡ above_of (flat_map (shell_vertices s) (take (k + 1) s.shells))
above_next s k old new h at is n =
    let e : above_of (flat_map (shell_vertices s) (take (k + 1) s.shells)) ≡ above_of (flat_map (shell_vertices s) (take k s.shells) ++ shell_vertices s h) =
    ap above_of (shells_more s s.shells k h at) in
    omega (arith, is, n, e, above-append (flat_map (shell_vertices s) (take k s.shells)) (shell_vertices s h))

-- What is below that number, where numbers go by first appearance.

pub has_below : (xs : List ℕ) (v : ℕ) → Has xs v → v < above_of xs
has_below [] v h = absurd h
has_below (x ∷ xs) v (inl e) = omega (arith, e)
has_below (x ∷ xs) v (inr m) = omega (arith, has_below xs v m)

which : (a b : ℕ) → (max a b ≡ a) ⊎ (max a b ≡ b)
which zero b = inr (omega arith)
which (suc a) zero = inl (omega arith)
which (suc a) (suc b) = ⊎_elim (λ p. inl (omega (arith, p))) (λ p. inr (omega (arith, p))) (which a b)

pub greatest_has : (xs : List ℕ) (g : ℕ) → above_of xs ≡ g + 1 → Has xs g
greatest_has [] g h = absurd (omega (arith, h))
greatest_has (x ∷ xs) g h = ⊎_elim (λ e. inl (omega (arith, h, e))) (λ e. inr (greatest_has xs g (sym e ∙ h))) (which (x + 1) (above_of xs))

distinct_first : (xs ys : List ℕ) → (zs : List ℕ) × (distinct ◌==◌ (xs ++ ys) ≡ distinct ◌==◌ xs ++ zs)
distinct_first [] ys = (distinct ◌==◌ ys, refl)
distinct_first (x ∷ xs) ys =
    let p : ℕ → Bool = λ y. not (x == y) in
    let before = distinct_first xs ys in
    (filter p before.0, ap (λ us. x ∷ filter p us) before.1 ∙ ap (λ us. x ∷ us) (filter-append p (distinct ◌==◌ xs) before.0))

numbers_first : (base n : ℕ) (xs ys : List ℕ) → numbers_from base n ≡ xs ++ ys → xs ≡ numbers_from base (length xs)
numbers_first base n [] ys h = refl
numbers_first base zero (x ∷ xs) ys h = absurd cc
numbers_first base (suc n) (x ∷ xs) ys h =
    let at_head : base ≡ x = cc in
    let rest : numbers_from (base + 1) n ≡ xs ++ ys = cc in
    ap (λ y. y ∷ xs) (sym at_head) ∙ ap (λ us. base ∷ us) (numbers_first (base + 1) n xs ys rest)

-- of numbers that go by first appearance, a first part has all that are below one that it has
appear_below : (xs ys : List ℕ) (n g v : ℕ) → distinct ◌==◌ (xs ++ ys) ≡ numbers_from 0 n → Has xs g → v ≤ g → Has xs v
appear_below xs ys n g v h m le =
    let split = distinct_first xs ys in
    let first : distinct ◌==◌ xs ≡ numbers_from 0 (length (distinct ◌==◌ xs)) = numbers_first 0 n (distinct ◌==◌ xs) split.0 (sym h ∙ split.1) in
    let g_low = number_below 0 (length (distinct ◌==◌ xs)) g (subst (λ us. Has us g) first (to_distinct ◌==◌ eqb-true xs g m)) in
    from_distinct ◌==◌ xs v (subst (λ us. Has us v) (sym first) (number_within 0 (length (distinct ◌==◌ xs)) v (omega arith) (omega (arith, g_low.1, le))))

take_part : {A : Type 0} (f : A → List ℕ) (k : ℕ) (xs : List A) → (ys : List ℕ) × (flat_map f xs ≡ flat_map f (take k xs) ++ ys)
take_part f zero xs = (flat_map f xs, refl)
take_part f (suc k) [] = ([], refl)
take_part f (suc k) (x ∷ xs) =
    let more = take_part f k xs in
    (more.0, ap (λ ys. f x ++ ys) more.1 ∙ sym (append_assoc (f x) (flat_map f (take k xs)) more.0))

pub first_below : (s : SolidData) (k n : ℕ) → IsNumberedSolid s → n ≡ above_of (flat_map (shell_vertices s) (take k s.shells)) → AreBelow s k n
first_below s k n numbered is v = ((λ c. omega (arith, is, has_below xs v (Has-from_Contains xs v c))), (λ lt. Contains-from_Has xs v (below v lt)))
  where
    xs : List ℕ
    xs = flat_map (shell_vertices s) (take k s.shells)

    below : (u : ℕ) → u < n → Has xs u
    below u lt =
        let part = take_part (shell_vertices s) k s.shells in
        let all : distinct ◌==◌ (xs ++ part.0) ≡ numbers_from 0 (length s.vertices) = ap (distinct ◌==◌) (sym part.1) ∙ numbered.vertices in
        let g : ℕ = n - 1 in
        let some : above_of xs ≡ g + 1 = omega (arith, is, lt) in
        appear_below xs part.0 (length s.vertices) g u all (greatest_has xs g some) (omega (arith, lt))

-- the number is the only one
above_is : (s : SolidData) (k n : ℕ) → AreBelow s k n → n ≡ above_of (flat_map (shell_vertices s) (take k s.shells))
above_is s k n h = both (top (above_of xs) refl) (low n refl)
  where
    xs : List ℕ
    xs = flat_map (shell_vertices s) (take k s.shells)

    both : above_of xs ≤ n → n ≤ above_of xs → n ≡ above_of xs
    both p q = omega (arith, p, q)

    top : (m : ℕ) → above_of xs ≡ m → m ≤ n
    top zero e = omega arith
    top (suc g) e = let one : above_of xs ≡ g + 1 = omega (arith, e) in let lt : g < n = (h g).0 (Contains-from_Has xs g (greatest_has xs g one)) in omega
        (arith, lt)

    low : (m : ℕ) → n ≡ m → n ≤ above_of xs
    low zero e = omega (arith, e)
    low (suc g) e = let lt : g < above_of xs = has_below xs g (Has-from_Contains xs g ((h g).1 (omega (arith, e)))) in omega (arith, lt, e)

above_within : (xs ys : List ℕ) → ((v : ℕ) → Has xs v → Has ys v) → (m : ℕ) → above_of xs ≡ m → m ≤ above_of ys
above_within xs ys f zero e = omega arith
above_within xs ys f (suc g) e =
    let one : above_of xs ≡ g + 1 = omega (arith, e) in
    let lt : g < above_of ys = has_below ys g (f g (greatest_has xs g one)) in omega (arith, lt)

above_same : (xs ys : List ℕ) → ((v : ℕ) → Has xs v → Has ys v) → ((v : ℕ) → Has ys v → Has xs v) → above_of xs ≡ above_of ys
above_same xs ys f g = let p = above_within xs ys f (above_of xs) refl in let q = above_within ys xs g (above_of ys) refl in omega (arith, p, q)

rows_above : (s : SolidData) (h : Shell) → IsNumberedSolid s → Has s.shells h → above_of (shell_rows s h).vertices ≡ above_of (shell_vertices s h)
unfolding shell_rows
rows_above s h numbered has =
    above_same (occurring (numbers_from 0 (length s.vertices)) (shell_vertices s h)) (shell_vertices s h)
    (λ v m. from_occurring (numbers_from 0 (length s.vertices)) (shell_vertices s h) v m)
    (λ v m. occurs (length s.vertices) (shell_vertices s h) v (vertices_known s h numbered has v m) m)

pub next_below : (s : SolidData) (k n new : ℕ) (d : ShellRows) → IsNumberedSolid s → k < length s.shells → AreBelow s k n
    → d ≡ rows_of s (slice_get s.shells k) → new ≡ max n (above_of d.vertices) → AreBelow s (k + 1) new
next_below s k n new d numbered lt below rows is =
    let at = get_some s.shells k lt in
    let same : above_of d.vertices ≡ above_of (shell_vertices s at.0) =
    ap (λ (r : ShellRows). above_of r.vertices) (rows ∙ ap (rows_of s) at.1) ∙ rows_above s at.0 numbered (has_get s.shells k at.0 at.1) in
    first_below s (k + 1) new numbered (above_next s k n new at.0 at.1 (above_is s k n below) (omega (arith, is, same)))

above_last : (x : ℕ) (xs : List ℕ) (last : ℕ) → Rises (x ∷ xs) → slice_get (x ∷ xs) (length xs) ≡ Some last → (above_of (x ∷ xs) ≡ last + 1) × Has (x ∷ xs) last
above_last x [] last h e = let same : x ≡ last = same_Some x last e in (omega (arith, same), inl same)
above_last x (y ∷ ys) last h e =
    let later = above_last y ys last h.1 e in
    let lt : x < last = all_has (λ z. x < z) (y ∷ ys) last h.0 later.1 in
    (omega (arith, later.0, lt), inr later.1)

pub last_above : (vs : List ℕ) (last : ℕ) → IsStrictlyIncreasing vs → slice_get vs (length vs - 1) ≡ Some last → above_of vs ≡ last + 1
last_above [] last rise e = absurd cc
last_above (x ∷ xs) last rise e =
    let n : suc (length xs) - 1 ≡ length xs = omega arith in
    (above_last x xs last (rises (x ∷ xs) rise) (subst (λ k. slice_get (x ∷ xs) k ≡ Some last) n e)).0

pub none_above : (vs : List ℕ) → slice_get vs (length vs - 1) ≡ None → above_of vs ≡ 0
none_above [] e = refl
none_above (x ∷ xs) e =
    let n : suc (length xs) - 1 ≡ length xs = omega arith in
    let there = get_some (x ∷ xs) (length xs) (omega arith) in
    let gone : slice_get (x ∷ xs) (length xs) ≡ None = subst (λ k. slice_get (x ∷ xs) k ≡ None) n e in
    absurd (none-some there.0 (sym gone ∙ there.1))

-- Whether the next shell shares one.

pub apart_below : (s : SolidData) (k n v : ℕ) → AreBelow s k n → n ≤ v → IsApart s k v
apart_below s k n v h le c = let lt : v < n = (h v).0 c in omega (arith, lt, le)

pub none_shared : (s : SolidData) (k n least : ℕ) (vs : List ℕ) → IsStrictlyIncreasing vs → AreBelow s k n → slice_get vs 0 ≡ Some least → n ≤ least
    → AllByRecursion (IsApart s k) vs
none_shared s k n least [] rise h e le = tt
none_shared s k n least (v ∷ vs) rise h e le =
    let same : v ≡ least = same_Some v least e in
    let r = rises (v ∷ vs) rise in (
      apart_below s k n v h (omega (arith, same, le)),
      All-from (IsApart s k) vs
          (λ x m. let lt : v < x = all_has (λ z. v < z) vs x r.0 m in apart_below s k n x h (omega (arith, same, le, lt))),
    )

pub least_shared : (s : SolidData) (k n least : ℕ) (vs : List ℕ) → AreBelow s k n → slice_get vs 0 ≡ Some least → least < n → FirstNot (IsApart s k) vs least
least_shared s k n least [] h e lt = absurd cc
least_shared s k n least (v ∷ vs) h e lt =
    let same : v ≡ least = same_Some v least e in
    inl ((λ apart. apart ((h v).1 (omega (arith, same, lt)))), sym same)

pub no_vertex : (s : SolidData) (k : ℕ) (vs : List ℕ) → slice_get vs 0 ≡ None → AllByRecursion (IsApart s k) vs
no_vertex s k [] e = tt
no_vertex s k (v ∷ vs) e = absurd cc
