-- Rows that stand one behind the other in one list.
use Rattle.std.specs.Prelude.{◌≡◌, ℕ, zero, suc, ◌+◌, ◌-◌, ◌<◌, ◌≤◌, ◌==◌, List, [], ◌∷◌, ◌++◌, length, take, drop, set, replicate, Some, slice_get}
use Rattle.std.specs.Prelude.{slice_index_or}
use Rattle.std.proofs.Common.{refl, sym, ◌∙◌, ap, subst, arith}
use Rattle.std.proofs.Math.Seq.{take-set-lt}
use Rattle.std.proofs.lemmas.Bool.{cond-false, ne_eqb}
use Rattle.std.proofs.lemmas.Option.{same_Some}
use Rattle.std.proofs.lemmas.List.{length-drop, length-take-le, take_all, take-append-le, take-set-le, drop_at, drop-append-le, drop-set-add, drop-set-lt}
use Rattle.std.proofs.lemmas.List.{set-get_or, set_past, length-append, length-replicate}
use Rattle.list_compact.specs.Rows.{rows_from, AreEnds, start_of}

-- where row i begins, where the first begins at place a
abbrev start : ℕ → List ℕ → ℕ → ℕ
start a es zero = a
start a es (suc i) = slice_index_or es i 0

is_start : (es : List ℕ) (i : ℕ) → start_of es i ≡ start 0 es i
is_start es zero = refl
is_start es (suc i) = cond-false (suc i == 0) 0 (slice_index_or es (suc i - 1) 0) (ne_eqb (suc i) 0 (λ e. omega (arith, e)))
    ∙ (let back : suc i - 1 ≡ i = omega arith in ap (λ k. slice_index_or es k 0) back)

rises : (a : ℕ) (es : List ℕ) (n : ℕ) → AreEnds a es n → a ≤ n
rises a [] n h = omega (arith, h)
rises a (e ∷ es) n h = omega (arith, h.0, rises e es n h.1)

rows_long : {X : Type 0} (a : ℕ) (es : List ℕ) (xs : List X) → length (rows_from a es xs) ≡ length es
rows_long a [] xs = refl
rows_long a (e ∷ es) xs = ap suc (rows_long e es xs)

row_at : {X : Type 0} (a : ℕ) (es : List ℕ) (xs : List X) (i : ℕ) → i < length es
    → slice_get (rows_from a es xs) i ≡ Some (take (slice_index_or es i 0 - start a es i) (drop (start a es i) xs))
row_at a [] xs i lt = absurd (omega (arith, lt))
row_at a (e ∷ es) xs zero lt = refl
row_at a (e ∷ es) xs (suc zero) lt = row_at e es xs zero (omega (arith, lt))
row_at a (e ∷ es) xs (suc (suc i)) lt = row_at e es xs (suc i) (omega (arith, lt))

bounds : (a : ℕ) (es : List ℕ) (n i : ℕ) → AreEnds a es n → i < length es → (a ≤ start a es i) × (start a es i ≤ slice_index_or es i 0)
    × (slice_index_or es i 0 ≤ n)
bounds a [] n i h lt = absurd (omega (arith, lt))
bounds a (e ∷ es) n zero h lt = (omega arith, h.0, rises e es n h.1)
bounds a (e ∷ es) n (suc zero) h lt = let b = bounds e es n zero h.1 (omega (arith, lt)) in (h.0, b.1, b.2)
bounds a (e ∷ es) n (suc (suc i)) h lt = let b = bounds e es n (suc i) h.1 (omega (arith, lt)) in (omega (arith, h.0, b.0), b.1, b.2)

-- ---- one more row

pub more_ends : (a : ℕ) (es : List ℕ) (n m : ℕ) → AreEnds a es n → n ≤ m → AreEnds a (es ++ m ∷ []) m
more_ends a [] n m h le = (omega (arith, h, le), refl)
more_ends a (e ∷ es) n m h le = (h.0, more_ends e es n m h.1 le)

pub more_rows : {X : Type 0} (a : ℕ) (es : List ℕ) (xs ys : List X) (m : ℕ) → AreEnds a es (length xs) → m ≡ length xs + length ys
    → rows_from a (es ++ m ∷ []) (xs ++ ys) ≡ rows_from a es xs ++ ys ∷ []
more_rows a [] xs ys m h e =
    ap (λ (r : List _). r ∷ []) (ap (take (m - a)) (drop_at xs ys a (sym h)) ∙ take_all (m - a) ys (omega (arith, h, e)))
more_rows a (b ∷ es) xs ys m h e =
    let low : b ≤ length xs = rises b es (length xs) h.1 in
    let here : take (b - a) (drop a (xs ++ ys)) ≡ take (b - a) (drop a xs) = ap (take (b - a)) (drop-append-le a xs ys (omega (arith, low, h.0)))
    ∙ take-append-le (b - a) (drop a xs) ys (omega (arith, low, length-drop a xs)) in
    ap (λ (r : List _). r ∷ rows_from b (es ++ m ∷ []) (xs ++ ys)) here ∙ ap (λ (rs : List (List _)). take (b - a) (drop a xs) ∷ rs)
    (more_rows b es xs ys m h.1 e)

-- ---- another item

rows_past : {X : Type 0} (a : ℕ) (es : List ℕ) (n : ℕ) (xs : List X) (p : ℕ) (y : X) → AreEnds a es n → p < a → rows_from a es (set xs p y) ≡ rows_from a es xs
rows_past a [] n xs p y h lt = refl
rows_past a (e ∷ es) n xs p y h lt =
    ap (λ (r : List _). take (e - a) r ∷ rows_from e es (set xs p y)) (drop-set-lt a xs p y lt)
    ∙ ap (λ (rs : List (List _)). take (e - a) (drop a xs) ∷ rs) (rows_past e es n xs p y h.1 (omega (arith, lt, h.0)))

row_before : {X : Type 0} (a e : ℕ) (xs : List X) (p : ℕ) (y : X) → a ≤ e → e ≤ p → take (e - a) (drop a (set xs p y)) ≡ take (e - a) (drop a xs)
row_before a e xs p y le past =
    let at : p ≡ a + (p - a) = omega (arith, le, past) in
    ap (λ q. take (e - a) (drop a (set xs q y))) at
    ∙ (ap (take (e - a)) (drop-set-add a xs (p - a) y) ∙ take-set-le (e - a) (drop a xs) (p - a) y (omega (arith, le, past)))

set_in : {X : Type 0} (a : ℕ) (es : List ℕ) (n : ℕ) (xs : List X) (i j : ℕ) (y : X) → AreEnds a es n → i < length es → j < slice_index_or es i 0 - start a es i
    → rows_from a es (set xs (start a es i + j) y) ≡ set (rows_from a es xs) i (set (take (slice_index_or es i 0 - start a es i) (drop (start a es i) xs)) j y)
set_in a [] n xs i j y h lt in_row = absurd (omega (arith, lt))
set_in a (e ∷ es) n xs zero j y h lt in_row =
    ap (λ (r : List _). r ∷ rows_from e es (set xs (a + j) y)) (ap (take (e - a)) (drop-set-add a xs j y) ∙ take-set-lt (e - a) (drop a xs) j y in_row)
    ∙ ap (λ (rs : List (List _)). set (take (e - a) (drop a xs)) j y ∷ rs) (rows_past e es n xs (a + j) y h.1 (omega (arith, in_row)))
set_in a (e ∷ es) n xs (suc zero) j y h lt in_row =
    ap (λ (r : List _). r ∷ rows_from e es (set xs (e + j) y)) (row_before a e xs (e + j) y h.0 (omega arith))
    ∙ ap (λ (rs : List (List _)). take (e - a) (drop a xs) ∷ rs) (set_in e es n xs zero j y h.1 (omega (arith, lt)) in_row)
set_in a (e ∷ es) n xs (suc (suc i)) j y h lt in_row =
    let b = bounds e es n (suc i) h.1 (omega (arith, lt)) in
    ap (λ (r : List _). r ∷ rows_from e es (set xs (slice_index_or es i 0 + j) y)) (row_before a e xs (slice_index_or es i 0 + j) y h.0 (omega (arith, b.0)))
    ∙ ap (λ (rs : List (List _)). take (e - a) (drop a xs) ∷ rs) (set_in e es n xs (suc i) j y h.1 (omega (arith, lt)) in_row)

-- ---- by what a function was told

pub rows_count : {X : Type 0} (es : List ℕ) (xs : List X) (rows : List (List X)) → rows_from 0 es xs ≡ rows → length es ≡ length rows
rows_count es xs rows e = sym (rows_long 0 es xs) ∙ ap length e

pub row_bounds : (es : List ℕ) (n i s e : ℕ) → AreEnds 0 es n → i < length es → s ≡ start_of es i → e ≡ slice_index_or es i 0 → (s ≤ e) × (e ≤ n)
row_bounds es n i s e h lt is ie = let b = bounds 0 es n i h lt in (omega (arith, b.1, is, ie, is_start es i), omega (arith, b.2, ie))

pub row_told : {X : Type 0} (es : List ℕ) (xs row : List X) (rows : List (List X)) (i s e : ℕ) → rows_from 0 es xs ≡ rows → i < length es → s ≡ start_of es i
    → e ≡ slice_index_or es i 0 → row ≡ take (e - s) (drop s xs) → slice_get rows i ≡ Some row
row_told es xs row rows i s e view lt is ie ir =
    ap (λ (r : List (List _)). slice_get r i) (sym view)
    ∙ (row_at 0 es xs i lt
    ∙ ap (λ (r : List _). Some r)
    (ap (λ k. take (slice_index_or es i 0 - k) (drop k xs)) (sym (is ∙ is_start es i)) ∙ (ap (λ k. take (k - s) (drop s xs)) (sym ie) ∙ sym ir)))

grown : {X : Type 0} (xs new : List X) (m count long : ℕ) (x : X) → m ≡ long + count → long ≡ length xs → new ≡ take m xs ++ replicate (m - long) x
    → new ≡ xs ++ replicate count x
grown xs new m count long x e el en =
    let left : m - long ≡ count = omega (arith, e) in
    en ∙ (ap (λ ys. ys ++ replicate (m - long) x) (take_all m xs (omega (arith, e, el))) ∙ ap (λ n. xs ++ replicate n x) left)

pub ends_pushed : {X : Type 0} (es ends : List ℕ) (xs new : List X) (m count long : ℕ) (x : X) → AreEnds 0 es (length xs) → m ≡ long + count → long ≡ length xs
    → new ≡ take m xs ++ replicate (m - long) x → ends ≡ es ++ m ∷ [] → AreEnds 0 ends (length new)
ends_pushed es ends xs new m count long x h e el en ee =
    let size : length new ≡ m = ap length (grown xs new m count long x e el en)
    ∙ (length-append xs (replicate count x) ∙ omega (arith, length-replicate count x, e, el)) in
    subst (λ n. AreEnds 0 ends n) (sym size) (subst (λ bs. AreEnds 0 bs m) (sym ee) (more_ends 0 es (length xs) m h (omega (arith, e, el))))

pub row_pushed : {X : Type 0} (es ends : List ℕ) (xs new : List X) (rows : List (List X)) (m count long : ℕ) (x : X) → rows_from 0 es xs ≡ rows
    → AreEnds 0 es (length xs) → m ≡ long + count → long ≡ length xs → new ≡ take m xs ++ replicate (m - long) x → ends ≡ es ++ m ∷ []
    → rows_from 0 ends new ≡ rows ++ replicate count x ∷ []
row_pushed es ends xs new rows m count long x view h e el en ee =
    ap (λ bs. rows_from 0 bs new) ee
    ∙ (ap (rows_from 0 (es ++ m ∷ [])) (grown xs new m count long x e el en)
    ∙ (more_rows 0 es xs (replicate count x) m h (omega (arith, e, el, length-replicate count x)) ∙ ap (λ rs. rs ++ replicate count x ∷ []) view))

-- an item that has no place is not put
pub none_put : {X : Type 0} (rows : List (List X)) (k j : ℕ) (x : X) → length (slice_index_or rows k []) ≤ j
    → rows ≡ set rows k (set (slice_index_or rows k []) j x)
none_put rows k j x le = sym (set-get_or rows k []) ∙ ap (set rows k) (sym (set_past (slice_index_or rows k []) j x le))

pub row_is : {X : Type 0} (rows : List (List X)) (k : ℕ) (row : List X) → slice_get rows k ≡ Some row → slice_index_or rows k [] ≡ row
row_is [] k row at = absurd cc
row_is (r ∷ rows) zero row at = same_Some r row at
row_is (r ∷ rows) (suc k) row at = row_is rows k row at

pub none_past : {X : Type 0} (es : List ℕ) (xs : List X) (rows : List (List X)) (k j : ℕ) (x : X) → rows_from 0 es xs ≡ rows → length es ≤ k
    → rows ≡ set rows k (set (slice_index_or rows k []) j x)
none_past es xs rows k j x view le = sym (set_past rows k (set (slice_index_or rows k []) j x) (omega (arith, le, rows_count es xs rows view)))

module _ {X : Type 0} (es : List ℕ) (xs : List X) (rows : List (List X)) (k j s e : ℕ) (x : X) (view : rows_from 0 es xs ≡ rows) (h : AreEnds 0 es (length xs))
    (lt : k < length es) (is : s ≡ start_of es k) (ie : e ≡ slice_index_or es k 0) where
  row_here : slice_index_or rows k [] ≡ take (e - s) (drop s xs)
  row_here = row_is rows k (take (e - s) (drop s xs)) (row_told es xs (take (e - s) (drop s xs)) rows k s e view lt is ie refl)

  pub none_in_row : e - s ≤ j → rows ≡ set rows k (set (slice_index_or rows k []) j x)
  none_in_row le =
      let b = row_bounds es (length xs) k s e h lt is ie in
      let long : length (slice_index_or rows k []) ≡ e - s = ap length row_here
      ∙ length-take-le (e - s) (drop s xs) (omega (arith, b.0, b.1, length-drop s xs)) in
      none_put rows k j x (omega (arith, long, le))

  pub one_put : j < e - s → rows_from 0 es (set xs (s + j) x) ≡ set rows k (set (slice_index_or rows k []) j x)
  one_put low =
      let at : s ≡ start 0 es k = is ∙ is_start es k in
      let within : j < slice_index_or es k 0 - start 0 es k = omega (arith, low, at, ie) in
      ap (λ p. rows_from 0 es (set xs (p + j) x)) at
      ∙ (set_in 0 es (length xs) xs k j x h lt within
      ∙ (ap (λ rs. set rs k (set (take (slice_index_or es k 0 - start 0 es k) (drop (start 0 es k) xs)) j x)) view
      ∙ ap (λ r. set rows k (set r j x))
      (ap (λ p. take (slice_index_or es k 0 - p) (drop p xs)) (sym at) ∙ (ap (λ p. take (p - s) (drop s xs)) (sym ie) ∙ sym row_here))))

pub ends_put : {X : Type 0} (es ends : List ℕ) (xs new row : List X) (m : ℕ) → AreEnds 0 es (length xs) → new ≡ xs ++ row → m ≡ length new
    → ends ≡ es ++ m ∷ [] → AreEnds 0 ends (length new)
ends_put es ends xs new row m h en em ee =
    let low : length xs ≤ m = omega (arith, em, ap length en, length-append xs row) in
    subst (λ n. AreEnds 0 ends n) em (subst (λ bs. AreEnds 0 bs m) (sym ee) (more_ends 0 es (length xs) m h low))

pub row_put : {X : Type 0} (es ends : List ℕ) (xs new row : List X) (rows : List (List X)) (m : ℕ) → rows_from 0 es xs ≡ rows → AreEnds 0 es (length xs)
    → new ≡ xs ++ row → m ≡ length new → ends ≡ es ++ m ∷ [] → rows_from 0 ends new ≡ rows ++ row ∷ []
row_put es ends xs new row rows m view h en em ee =
    ap (λ bs. rows_from 0 bs new) ee
    ∙ (ap (rows_from 0 (es ++ m ∷ [])) en
    ∙ (more_rows 0 es xs row m h (omega (arith, em, ap length en, length-append xs row)) ∙ ap (λ rs. rs ++ row ∷ []) view))
