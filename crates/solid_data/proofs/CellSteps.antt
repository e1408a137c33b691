-- Values that are searched are those of the whole range.
use Rattle.std.specs.Prelude.{◌≡◌, ◌<◌, ◌≤◌, ◌+◌, ◌-◌, ◌==◌, ◌⊎◌, ℕ, zero, suc, Bool, true, false, List, [], ◌∷◌, length, map, replicate, slice_set, slice_get}
use Rattle.std.specs.Prelude.{Some, Contains, if◌then◌else◌}
use Rattle.std.proofs.Common.{refl, sym, ◌∙◌, ap, subst, arith, inl, inr, get_or, ⊎_elim}
use Rattle.std.proofs.lemmas.Bool.Decides.{eqb_tells}
use Rattle.std.proofs.lemmas.Bool.{eq-eqb}
use Rattle.std.proofs.lemmas.List.{get_or-map}
use Rattle.std.proofs.lemmas.Option.{same_Some, none-some, slice_get-get_or, slice_get_within, get_or_from_slice_get}
use Rattle.solid_data.specs.Ring.{numbers_from}
use Rattle.solid_data.proofs.Members.{Has, Has-from_Contains, Contains-from_Has, Rises, All-at, has_get, rises}
use Rattle.solid_data.proofs.Occurring.{length-numbers, number_get}
use Rattle.solid_data.specs.Cells.{Celled, beside, cells_of, value_count, AreCells}
use Rattle.solid_data.specs.Ranges.{IsWithin, IsSpanOf}
use Rattle.solid_data.specs.declared.spanning.Span.{Span}

-- a value beside a number that has a place
pub beside_there : {T : Type 0} (blank d : T) (ms : List ℕ) (vs : List T) (i n : ℕ) → Rises ms → length vs ≡ length ms → slice_get ms i ≡ Some n
    → get_or vs i d ≡ beside blank ms vs n
beside_there blank d [] vs i n r long at = absurd (none-some n at)
beside_there blank d (m ∷ ms) [] i n r long at = absurd (omega (arith, long))
beside_there blank d (m ∷ ms) (v ∷ vs) zero n r long at = ap (λ b. if b then v else beside blank ms vs n) (sym (eq-eqb m n (same_Some m n at)))
beside_there blank d (m ∷ ms) (v ∷ vs) (suc i) n r long at =
    let above : m < n = All-at (λ y. m < y) ms r.0 n (has_get ms i n at) in
    ⊎_elim (λ y. absurd (omega (arith, above, y.1)))
    (λ no_. beside_there blank d ms vs i n r.1 (let e : length vs ≡ length ms = omega (arith, long) in e) at ∙ ap (λ b. if b then v else beside blank ms vs n)
    (sym no_.0)) (eqb_tells m n)

-- beside no place stands the blank value
pub beside_none : {T : Type 0} (blank : T) (ms : List ℕ) (vs : List T) (n : ℕ) → (Has ms n → ⊥) → beside blank ms vs n ≡ blank
beside_none blank [] vs n none = refl
beside_none blank (m ∷ ms) [] n none = refl
beside_none blank (m ∷ ms) (v ∷ vs) n none =
    ⊎_elim (λ y. absurd (none (inl y.1)))
    (λ no_. ap (λ b. if b then v else beside blank ms vs n) no_.0 ∙ beside_none blank ms vs n (λ h. none (inr h))) (eqb_tells m n)

-- a value that is set
pub beside_set : {T : Type 0} (blank value : T) (ms : List ℕ) (vs : List T) (i n k : ℕ) → Rises ms → length vs ≡ length ms → slice_get ms i ≡ Some n
    → beside blank ms (slice_set vs i value) k ≡ (if n == k then value else beside blank ms vs k)
beside_set blank value [] vs i n k r long at = absurd (none-some n at)
beside_set blank value (m ∷ ms) [] i n k r long at = absurd (omega (arith, long))
beside_set blank value (m ∷ ms) (v ∷ vs) zero n k r long at =
    let same : m ≡ n = same_Some m n at in
    ⊎_elim
    (λ y. ap (λ b. if b then value else beside blank ms vs k) y.0 ∙ ap (λ b. if b then value else (if m == k then v else beside blank ms vs k))
    (sym (eq-eqb n k (sym same ∙ y.1))))
    (λ no_. by_other same no_.0) (eqb_tells m k)
  where
    by_other : m ≡ n → (m == k) ≡ false → (if m == k then value else beside blank ms vs k)
        ≡ (if n == k then value else (if m == k then v else beside blank ms vs k))
    by_other same other =
        ap (λ b. if b then value else beside blank ms vs k) other
        ∙ (sym (ap (λ b. if b then v else beside blank ms vs k) other)
        ∙ ap (λ b. if b then value else (if m == k then v else beside blank ms vs k)) (sym (ap (λ x. x == k) (sym same) ∙ other)))
beside_set blank value (m ∷ ms) (v ∷ vs) (suc i) n k r long at =
    ⊎_elim (λ y. here y.0 y.1) (λ no_. later no_.0 (beside_set blank value ms vs i n k r.1 (let e : length vs ≡ length ms = omega (arith, long) in e) at))
    (eqb_tells m k)
  where
    above : m < n
    above = All-at (λ y. m < y) ms r.0 n (has_get ms i n at)

    here : (m == k) ≡ true → m ≡ k → (if m == k then v else beside blank ms (slice_set vs i value) k)
        ≡ (if n == k then value else (if m == k then v else beside blank ms vs k))
    here test same =
        ⊎_elim (λ y. absurd (omega (arith, above, same, y.1)))
        (λ no_. ap (λ b. if b then v else beside blank ms (slice_set vs i value) k) test
        ∙ (sym (ap (λ b. if b then v else beside blank ms vs k) test)
        ∙ sym (ap (λ b. if b then value else (if m == k then v else beside blank ms vs k)) no_.0))) (eqb_tells n k)

    later : (m == k) ≡ false → beside blank ms (slice_set vs i value) k ≡ (if n == k then value else beside blank ms vs k)
        → (if m == k then v else beside blank ms (slice_set vs i value) k) ≡ (if n == k then value else (if m == k then v else beside blank ms vs k))
    later test rest =
        ap (λ b. if b then v else beside blank ms (slice_set vs i value) k) test
        ∙ (rest
        ∙ ap (λ t. if n == k then value else t) (sym (ap (λ b. if b then v else beside blank ms vs k) test)))

map_set : {T : Type 0} (f g : ℕ → T) (value : T) (low count k : ℕ) → ((x : ℕ) → g x ≡ (if low + k == x then value else f x)) → k < count
    → map g (numbers_from low count) ≡ slice_set (map f (numbers_from low count)) k value
map_set f g value low zero k each lt = absurd (omega (arith, lt))
map_set f g value low (suc count) zero each lt =
    let first : g low ≡ value = each low ∙ ap (λ b. if b then value else f low) (let e : low + 0 ≡ low = omega arith in eq-eqb (low + 0) low e) in
    ap (λ x. x ∷ map g (numbers_from (low + 1) count)) first ∙ ap (λ xs. value ∷ xs) (rest (low + 1) count (omega arith))
  where
    rest : (base n : ℕ) → low < base → map g (numbers_from base n) ≡ map f (numbers_from base n)
    rest base zero above = refl
    rest base (suc n) above =
        let apart : (low + 0 == base) ≡ false = ⊎_elim (λ y. absurd (omega (arith, above, y.1))) (λ no_. no_.0) (eqb_tells (low + 0) base) in
        ap (λ x. x ∷ map g (numbers_from (base + 1) n)) (each base ∙ ap (λ b. if b then value else f base) apart)
        ∙ ap (λ xs. f base ∷ xs) (rest (base + 1) n (omega (arith, above)))
map_set f g value low (suc count) (suc k) each lt =
    let apart : (low + suc k == low) ≡ false = ⊎_elim (λ y. absurd (omega (arith, y.1))) (λ no_. no_.0) (eqb_tells (low + suc k) low) in
    let e : low + suc k ≡ low + 1 + k = omega arith in
    ap (λ x. x ∷ map g (numbers_from (low + 1) count)) (each low ∙ ap (λ b. if b then value else f low) apart)
    ∙ ap (λ xs. f low ∷ xs) (map_set f g value (low + 1) count k (λ x. each x ∙ ap (λ n. if n == x then value else f x) e) (omega (arith, lt)))

-- ---- the whole range

ranged : {T : Type 0} (ns : List ℕ) (span : Span) (blank : T) (values : List T) (n : ℕ) → IsWithin span n
    → get_or (map (beside blank ns values) (numbers_from span.least span.count)) (n - span.least) blank ≡ beside blank ns values n
ranged ns span blank values n within =
    let lt : n - span.least < span.count = omega (arith, within) in
    let in_range : n - span.least < length (numbers_from span.least span.count) = omega (arith, lt, length-numbers span.least span.count) in
    let e : span.least + (n - span.least) ≡ n = omega (arith, within) in
    get_or-map (beside blank ns values) (numbers_from span.least span.count) (n - span.least) 0 blank in_range
    ∙ ap (beside blank ns values) (number_get span.least span.count (n - span.least) 0 lt ∙ e)

-- a number of the range
pub far_there : {T : Type 0} (ns : List ℕ) (span : Span) (blank d : T) (values : List T) (i n : ℕ) → AreCells true ns span values → IsWithin span n
    → slice_get ns i ≡ Some n → get_or values i d ≡ get_or (cells_of true ns span blank values) (n - span.least) blank
far_there ns span blank d values i n c within at =
    beside_there blank d ns values i n (rises ns c.rise) c.long at ∙ sym (ranged ns span blank values n within)

pub far_none : {T : Type 0} (ns : List ℕ) (span : Span) (blank : T) (values : List T) (n : ℕ) → IsWithin span n → (Contains ns n → ⊥)
    → blank ≡ get_or (cells_of true ns span blank values) (n - span.least) blank
far_none ns span blank values n within none =
    sym (ranged ns span blank values n within ∙ beside_none blank ns values n (λ h. none (Contains-from_Has ns n h)))

pub far_set : {T : Type 0} (ns : List ℕ) (span : Span) (blank value : T) (values : List T) (i n : ℕ) → AreCells true ns span values → slice_get ns i ≡ Some n
    → cells_of true ns span blank (slice_set values i value) ≡ slice_set (cells_of true ns span blank values) (n - span.least) value
far_set ns span blank value values i n c at =
    let within = span_at ns span i n c.range at in
    let e : n ≡ span.least + (n - span.least) = omega (arith, within) in
    map_set (beside blank ns values) (beside blank ns (slice_set values i value)) value span.least span.count (n - span.least)
    (λ x. beside_set blank value ns values i n x (rises ns c.rise) c.long at ∙ ap (λ m. if m == x then value else beside blank ns values x) e)
    (omega (arith, within))
  where
    span_at : (ns : List ℕ) (span : Span) (i n : ℕ) → IsSpanOf span ns → slice_get ns i ≡ Some n → IsWithin span n
    span_at ns span i n is at = subst (IsWithin span) (get_or_from_slice_get ns i n n at) (is.holds i n (slice_get_within ns i n at))

-- cells that nothing was set in
pub blank_cells : {T : Type 0} (far : Bool) (ns : List ℕ) (span : Span) (blank : T) (values : List T) → values ≡ replicate (value_count far ns span) blank
    → cells_of far ns span blank values ≡ replicate span.count blank
blank_cells false ns span blank values e = e
blank_cells true ns span blank values e = ap (λ vs. map (beside blank ns vs) (numbers_from span.least span.count)) e ∙ all_blank span.least span.count
  where
    one_blank : (ms : List ℕ) (count n : ℕ) → beside blank ms (replicate count blank) n ≡ blank
    one_blank [] count n = refl
    one_blank (m ∷ ms) zero n = refl
    one_blank (m ∷ ms) (suc count) n =
        ⊎_elim (λ y. ap (λ b. if b then blank else beside blank ms (replicate count blank) n) y.0)
        (λ no_. ap (λ b. if b then blank else beside blank ms (replicate count blank) n) no_.0 ∙ one_blank ms count n) (eqb_tells m n)

    all_blank : (low count : ℕ) → map (beside blank ns (replicate (length ns) blank)) (numbers_from low count) ≡ replicate count blank
    all_blank low zero = refl
    all_blank low (suc count) = ap (λ x. x ∷ map (beside blank ns (replicate (length ns) blank)) (numbers_from (low + 1) count)) (one_blank ns (length ns) low)
        ∙ ap (λ xs. blank ∷ xs) (all_blank (low + 1) count)

-- ---- a place that is searched

pub searched_place : (ns : List ℕ) (n i d : ℕ) → i < length ns → get_or ns i d ≡ n → slice_get ns i ≡ Some n
searched_place ns n i d lt e = slice_get-get_or ns i d lt ∙ ap Some e

pub searched_none : (ns : List ℕ) (n i : ℕ) → ((k : ℕ) → k < i → get_or ns k 0 < n) → ((k : ℕ) → i ≤ k → k < length ns → n < get_or ns k 0) → Contains ns n → ⊥
searched_none ns n i low high c =
    let p = place ns (Has-from_Contains ns n c) in
    ⊎_elim (λ before. let a = low p.0 before in absurd (omega (arith, a, p.2))) (λ above. let a = high p.0 above p.1 in absurd (omega (arith, a, p.2)))
    (split p.0 i)
  where
    place : (ns : List ℕ) → Has ns n → (k : ℕ) × (k < length ns) × (get_or ns k 0 ≡ n)
    place [] h = absurd h
    place (m ∷ ms) (inl e) = (0, omega arith, e)
    place (m ∷ ms) (inr h) = let p = place ms h in (suc p.0, omega (arith, p.1), p.2)

    split : (k i : ℕ) → (k < i) ⊎ (i ≤ k)
    split k zero = inr (omega arith)
    split zero (suc i) = inl (omega arith)
    split (suc k) (suc i) = ⊎_elim (λ lt. inl (omega (arith, lt))) (λ le. inr (omega (arith, le))) (split k i)

pub rise_least : (ns : List ℕ) → Rises ns → (i j : ℕ) → i ≤ j → j < length ns → get_or ns i 0 ≤ get_or ns j 0
rise_least [] r i j le lt = absurd (omega (arith, lt))
rise_least (m ∷ ms) r zero zero le lt = omega arith
rise_least (m ∷ ms) r zero (suc j) le lt =
    let in_ms : j < length ms = omega (arith, lt)
    in let a = All-at (λ y. m < y) ms r.0 (get_or ms j 0) (has_get ms j (get_or ms j 0) (slice_get-get_or ms j 0 in_ms)) in omega (arith, a)
rise_least (m ∷ ms) r (suc i) zero le lt = absurd (omega (arith, le))
rise_least (m ∷ ms) r (suc i) (suc j) le lt = rise_least ms r.1 i j (omega (arith, le)) (omega (arith, lt))

-- what `at` and `set` find
abbrev pub celled : {T : Type 0} → Bool → List ℕ → Span → T → List T → Celled T
celled far ns span blank values = record { numbers = ns; span = span; blank = blank; cells = cells_of far ns span blank values }

pub at_found : {T : Type 0} (w : Celled T) (far : Bool) (ns : List ℕ) (span : Span) (blank d : T) (values : List T) (i n : ℕ) (v : T)
    → w ≡ celled far ns span blank values → far ≡ true → AreCells far ns span values → IsWithin w.span n → slice_get ns i ≡ Some n → v ≡ get_or values i d
    → v ≡ get_or w.cells (n - w.span.least) w.blank
at_found {T} w true ns span blank d values i n v is far c within at is_v =
    subst (λ (x : Celled T). v ≡ get_or x.cells (n - x.span.least) x.blank) (sym is)
    (is_v ∙ far_there ns span blank d values i n c (subst (λ (x : Celled T). IsWithin x.span n) is within) at)
at_found w false ns span blank d values i n v is far c within at is_v = absurd cc

pub at_none : {T : Type 0} (w : Celled T) (far : Bool) (ns : List ℕ) (span : Span) (blank : T) (values : List T) (n : ℕ) → w ≡ celled far ns span blank values
    → far ≡ true → IsWithin w.span n → (Contains ns n → ⊥) → blank ≡ get_or w.cells (n - w.span.least) w.blank
at_none {T} w true ns span blank values n is far within none =
    subst (λ (x : Celled T). blank ≡ get_or x.cells (n - x.span.least) x.blank) (sym is)
    (far_none ns span blank values n (subst (λ (x : Celled T). IsWithin x.span n) is within) none)
at_none w false ns span blank values n is far within none = absurd cc

pub set_found : {T : Type 0} (w : Celled T) (far : Bool) (ns : List ℕ) (span : Span) (blank value : T) (values : List T) (i n : ℕ)
    → w ≡ celled far ns span blank values → far ≡ true → AreCells far ns span values → slice_get ns i ≡ Some n
    → celled far ns span blank (slice_set values i value)
    ≡ record { numbers = w.numbers; span = w.span; blank = w.blank; cells = slice_set w.cells (n - w.span.least) value }
set_found {T} w true ns span blank value values i n is far c at =
    subst (λ (x : Celled T). celled true ns span blank (slice_set values i value)
    ≡ record { numbers = x.numbers; span = x.span; blank = x.blank; cells = slice_set x.cells (n - x.span.least) value }) (sym is)
    (ap (λ (vs : List T). (let made : Celled T = record { numbers = ns; span = span; blank = blank; cells = vs } in made))
    (far_set ns span blank value values i n c at))
set_found w false ns span blank value values i n is far c at = absurd cc
