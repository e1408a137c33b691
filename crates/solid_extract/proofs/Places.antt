-- Places of kept entries.
use Rattle.std.specs.Prelude.{◌≡◌, ℕ, suc, ◌+◌, ◌-◌, ◌*◌, ◌/◌, ◌%◌, ◌<◌, ◌≤◌, ◌==◌, cond, not, Bool, true, false, List, [], ◌∷◌, length, drop, replicate, set}
use Rattle.std.specs.Prelude.{Some, slice_get, slice_index_or, if◌then◌else◌, option_map}
use Rattle.std.specs.List.{AllByRecursion}
use Rattle.std.proofs.Common.{refl, sym, ap, subst, ◌∙◌, arith, inl, inr}
use Rattle.std.proofs.lemmas.Bool.{eqb-true, eq-eqb, ne_eqb, true≢false}
use Rattle.std.proofs.lemmas.List.{drop_all, get_or-replicate, get_or-set_same, get_or-set_other, get_or_default}
use Rattle.std.proofs.lemmas.Option.{slice_get-map}
use Rattle.iges_base.specs.declared.entry_no.EntryNo.{EntryNo}
use Rattle.brep_lists.proofs.Places.{open_at}
use Rattle.entry_references.specs.EntrySets.{IsWithin, numbers_of}
use Rattle.entry_references.proofs.Marks.{number_is, place_is}
use Rattle.entry_references.proofs.RisingLists.{In}
use Rattle.solid_extract.specs.Renaming.{place_of, ArePlaces}
use Rattle.solid_extract.proofs.Copies.{all_at}

-- ---- places behind a first one

pub place_step : (x m : ℕ) (xs : List ℕ) (b : Bool) → (x == m) ≡ b → place_of (x ∷ xs) m ≡ (if b then 0 else suc (place_of xs m))
place_step x m xs true t = ap (λ (b : Bool). cond (not b) (1 + place_of xs m) 0) t
place_step x m xs false t =
    let next : 1 + place_of xs m ≡ suc (place_of xs m) = omega arith in
    ap (λ (b : Bool). cond (not b) (1 + place_of xs m) 0) t ∙ next

pub place_here : (x m : ℕ) (xs : List ℕ) → x ≡ m → place_of (x ∷ xs) m ≡ 0
place_here x m xs e = place_step x m xs true (eq-eqb x m e)

pub place_later : (x m : ℕ) (xs : List ℕ) → (x ≡ m → ⊥) → place_of (x ∷ xs) m ≡ suc (place_of xs m)
place_later x m xs ne = place_step x m xs false (ne_eqb x m ne)

-- a number that is kept stands at its place
pub place_found : (xs : List ℕ) (m : ℕ) → In xs m → slice_get xs (place_of xs m) ≡ Some m
place_found [] m i = absurd i
place_found (x ∷ xs) m i = by_test (x == m) refl i (λ j. place_found xs m j)
  where
    by_test : (b : Bool) → (x == m) ≡ b → In (x ∷ xs) m → (In xs m → slice_get xs (place_of xs m) ≡ Some m) → slice_get (x ∷ xs) (place_of (x ∷ xs) m) ≡ Some m
    by_test true t j on = ap (slice_get (x ∷ xs)) (place_step x m xs true t) ∙ ap (λ (n : ℕ). Some n) (eqb-true x m t)
    by_test false t (inl e) on = absurd (true≢false (sym (eq-eqb x m e) ∙ t))
    by_test false t (inr j) on = ap (slice_get (x ∷ xs)) (place_step x m xs false t) ∙ on j

pub place_few : (xs : List ℕ) (m : ℕ) → place_of xs m ≤ length xs
place_few [] m = omega arith
place_few (x ∷ xs) m = by_test (x == m) refl (place_few xs m)
  where
    by_test : (b : Bool) → (x == m) ≡ b → place_of xs m ≤ length xs → place_of (x ∷ xs) m ≤ suc (length xs)
    by_test true t on = omega (arith, place_here x m xs (eqb-true x m t))
    by_test false t on = omega (arith, on, place_later x m xs (λ e. clash e))
      where
        clash : x ≡ m → ⊥
        clash e = let g : true ≡ false = sym (eq-eqb x m e) ∙ t in absurd cc

-- what isn't the number of an entry has no place
pub no_place : (size : ℕ) (xs : List ℕ) (m : ℕ) → AllByRecursion (IsWithin size) xs → (IsWithin size m → ⊥) → place_of xs m ≡ length xs
no_place size [] m all ne = refl
no_place size (x ∷ xs) m all ne =
    let on : place_of xs m ≡ length xs = no_place size xs m all.1 ne in
    omega (arith, on, place_later x m xs (λ e. ne (subst (IsWithin size) e all.0)))

-- ---- the loop

pub places_start : (kept ps : List ℕ) (size j : ℕ) → ps ≡ replicate size (length kept) → j < size
    → slice_index_or ps j 0 ≡ length kept + place_of (drop (length kept) kept) (2 * j + 1)
places_start kept ps size j e lt =
    let nothing : place_of (drop (length kept) kept) (2 * j + 1) ≡ 0 =
    ap (λ (xs : List ℕ). place_of xs (2 * j + 1)) (drop_all (length kept) kept (omega arith)) in
    ap (λ (xs : List ℕ). slice_index_or xs j 0) e ∙ (get_or-replicate size j (length kept) 0 lt ∙ (omega (arith, nothing)))

pub places_next : (kept ps new : List ℕ) (size left before m : ℕ) → length ps ≡ size → 0 < left → before ≡ left - 1 → slice_get kept before ≡ Some m
    → IsWithin size m → new ≡ set ps (m / 2) before
    → ((j : ℕ) → j < size → slice_index_or ps j 0 ≡ left + place_of (drop left kept) (2 * j + 1)) → (j : ℕ) → j < size
    → slice_index_or new j 0 ≡ before + place_of (drop before kept) (2 * j + 1)
places_next kept ps new size left before m long some eb at within en h j lt = by_test (m / 2 == j) refl
  where
    is : 2 * (m / 2) + 1 ≡ m
    is = number_is size m within

    one : before + 1 ≡ left
    one = omega (arith, eb, some)

    opened : drop before kept ≡ m ∷ drop left kept
    opened = open_at kept before m at ∙ ap (λ (k : ℕ). m ∷ drop k kept) one

    by_test : (b : Bool) → (m / 2 == j) ≡ b → slice_index_or new j 0 ≡ before + place_of (drop before kept) (2 * j + 1)
    by_test true t =
        let same : m / 2 ≡ j = eqb-true (m / 2) j t in
        let number : m ≡ 2 * j + 1 = omega (arith, is, same) in
        let here : place_of (drop before kept) (2 * j + 1) ≡ 0 = ap (λ (xs : List ℕ). place_of xs (2 * j + 1)) opened
        ∙ place_here m (2 * j + 1) (drop left kept) number in
        let got : slice_index_or new j 0 ≡ before = ap (λ (xs : List ℕ). slice_index_or xs j 0) en
        ∙ (ap (λ (k : ℕ). slice_index_or (set ps k before) j 0) same ∙ get_or-set_same ps j before 0 (omega (arith, long, lt))) in
        omega (arith, here, got)
    by_test false t =
        let ne : m / 2 ≡ j → ⊥ = λ e. apart e t in
        let far : m ≡ 2 * j + 1 → ⊥ = λ e. ne (ap (λ (k : ℕ). k / 2) e ∙ place_is j) in
        let later : place_of (drop before kept) (2 * j + 1) ≡ suc (place_of (drop left kept) (2 * j + 1)) =
        ap (λ (xs : List ℕ). place_of xs (2 * j + 1)) opened ∙ place_later m (2 * j + 1) (drop left kept) far in
        let got : slice_index_or new j 0 ≡ left + place_of (drop left kept) (2 * j + 1) = ap (λ (xs : List ℕ). slice_index_or xs j 0) en
        ∙ (get_or-set_other ps (m / 2) j before 0 (λ e. ne (sym e)) ∙ h j lt) in
        omega (arith, later, got, one)
      where
        apart : m / 2 ≡ j → (m / 2 == j) ≡ false → ⊥
        apart e u = let g : true ≡ false = sym (eq-eqb (m / 2) j e) ∙ u in absurd cc

pub places_end : (kept ps : List ℕ) (size left : ℕ) → length ps ≡ size → left ≤ 0 → AllByRecursion (IsWithin size) kept → length kept ≤ 4999999
    → ((j : ℕ) → j < size → slice_index_or ps j 0 ≡ left + place_of (drop left kept) (2 * j + 1)) → ArePlaces kept ps
places_end kept ps size left long done within few h =
    let none : left ≡ 0 = omega (arith, done) in
    record {
      stand = λ j lt.
          h j (omega (arith, lt, long)) ∙ (ap (λ (k : ℕ). k + place_of (drop k kept) (2 * j + 1)) none ∙ (omega arith));
      within = subst (λ (n : ℕ). AllByRecursion (IsWithin n) kept) (sym long) within;
      few = few;
    }

-- ---- reading

pub place_read : (kept ps : List ℕ) (m i x : ℕ) → ArePlaces kept ps → i ≡ m / 2 → m % 2 ≡ 1 → i < length ps → x ≡ slice_index_or ps i x → x ≡ place_of kept m
place_read kept ps m i x h ei odd lt read =
    let is : 2 * (m / 2) + 1 ≡ m = number_is (length ps) m (odd, omega (arith, ei, lt)) in
    let same : 2 * i + 1 ≡ m = ap (λ (k : ℕ). 2 * k + 1) ei ∙ is in
    read ∙ (get_or_default ps i x 0 lt ∙ (h.stand i lt ∙ ap (place_of kept) same))

pub number_at : (nos : List EntryNo) (i : ℕ) (no : EntryNo) → slice_get nos i ≡ Some no → slice_get (numbers_of nos) i ≡ Some no.0
number_at nos i entry e = slice_get-map (λ (n : EntryNo). n.0) nos i ∙ ap (option_map (λ (n : EntryNo). n.0)) e

pub within_at : (P : ℕ → Type 0) (nos : List EntryNo) (i : ℕ) (no : EntryNo) → AllByRecursion P (numbers_of nos) → slice_get nos i ≡ Some no → P no.0
within_at P nos i entry all e = all_at P (numbers_of nos) i entry.0 all (number_at nos i entry e)
