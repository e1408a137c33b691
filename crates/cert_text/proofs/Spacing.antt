-- Numbers that are spelled in a line, each after a space.
use Rattle.std.specs.Prelude.{◌≡◌, ℕ, zero, suc, ◌+◌, ◌<◌, ◌≤◌, ◌^◌, List, [], ◌∷◌, ◌++◌, map, decimal, ◌≢◌}
use Rattle.std.specs.List.{AllByRecursion}
use Rattle.std.specs.Fmt.{digits}
use Rattle.std.specs.Int.Digits.{digits_of}
use Rattle.std.proofs.Common.{refl, sym, ◌∙◌, ap, subst, arith, append_assoc}
use Rattle.std.proofs.lemmas.Fmt.{decimal-digits_of, decimal_injective}
use Rattle.cert_text.specs.Text.{spaced, IsShort}

abbrev pub rest_of : List ℕ → List ℕ
rest_of [] = []
rest_of (x ∷ xs) = xs

abbrev pub first_or : ℕ → List ℕ → ℕ
first_or d [] = d
first_or d (x ∷ xs) = x

abbrev pub AreDigits : List ℕ → Type 0
AreDigits bytes = AllByRecursion (λ b. 48 ≤ b) bytes

map_digits : (ds : List ℕ) → AllByRecursion (λ b. 48 ≤ b) (map (λ d. 48 + d) ds)
map_digits [] = tt
map_digits (d ∷ ds) = (omega arith, map_digits ds)

zero_digits : AllByRecursion (λ b. 48 ≤ b) (decimal 0)
unfolding digits
zero_digits = (omega arith, tt)

pub decimal_digits : (n : ℕ) → n < 10 ^ 9 → AllByRecursion (λ b. 48 ≤ b) (decimal n)
decimal_digits zero lt = zero_digits
decimal_digits (suc n) lt = subst (AllByRecursion (λ b. 48 ≤ b)) (sym (decimal-digits_of (suc n) (omega arith) (omega (arith, lt))))
    (map_digits (digits_of 10 (suc n)))

-- Digits up to a byte that is none are told apart.
pub split_digits : (xs ys us vs : List ℕ) → AreDigits xs → AreDigits ys → first_or 0 us < 48 → first_or 0 vs < 48 → xs ++ us ≡ ys ++ vs → (xs ≡ ys) × (us ≡ vs)
split_digits [] [] us vs a b p q h = (refl, h)
split_digits [] (y ∷ ys) us vs a b p q h = absurd (let e : first_or 0 us ≡ y = ap (first_or 0) h in omega (arith, e, p, b.0))
split_digits (x ∷ xs) [] us vs a b p q h = absurd (let e : x ≡ first_or 0 vs = ap (first_or 0) h in omega (arith, e, q, a.0))
split_digits (x ∷ xs) (y ∷ ys) us vs a b p q h =
    let rest = split_digits xs ys us vs a.1 b.1 p q (ap rest_of h) in
    (ap (λ z. z ∷ xs) (ap (first_or 0) h) ∙ ap (λ zs. y ∷ zs) rest.0, rest.1)

spaced_stops : (ns : List ℕ) → first_or 0 (spaced ns ++ 10 ∷ []) < 48
spaced_stops [] = omega arith
spaced_stops (n ∷ ns) = omega arith

pub spaced_one : (ns ms : List ℕ) → AllByRecursion IsShort ns → AllByRecursion IsShort ms → spaced ns ++ 10 ∷ [] ≡ spaced ms ++ 10 ∷ [] → ns ≡ ms
spaced_one [] [] a b h = refl
spaced_one [] (m ∷ ms) a b h = absurd (let e : ◌≡◌ {A = ℕ} 10 32 = ap (first_or 0) h in omega (arith, e))
spaced_one (n ∷ ns) [] a b h = absurd (let e : ◌≡◌ {A = ℕ} 32 10 = ap (first_or 0) h in omega (arith, e))
spaced_one (n ∷ ns) (m ∷ ms) a b h =
    let tails : decimal n ++ (spaced ns ++ 10 ∷ []) ≡ decimal m ++ (spaced ms ++ 10 ∷ []) =
    sym (append_assoc (decimal n) (spaced ns) (10 ∷ [])) ∙ (ap rest_of h ∙ append_assoc (decimal m) (spaced ms) (10 ∷ [])) in
    let parts = split_digits (decimal n) (decimal m) (spaced ns ++ 10 ∷ []) (spaced ms ++ 10 ∷ []) (decimal_digits n a.0) (decimal_digits m b.0)
    (spaced_stops ns) (spaced_stops ms) tails in
    let same : n ≡ m = decimal_injective n m (omega (arith, a.0)) (omega (arith, b.0)) parts.0 in
    ap (λ z. z ∷ ns) same ∙ ap (λ zs. m ∷ zs) (spaced_one ns ms a.1 b.1 parts.1)

pub same_front : (xs us vs : List ℕ) → xs ++ us ≡ xs ++ vs → us ≡ vs
same_front [] us vs h = h
same_front (x ∷ xs) us vs h = same_front xs us vs (ap rest_of h)

join_no_break : (xs ys : List ℕ) → AllByRecursion (λ b. b ≢ 10) xs → AllByRecursion (λ b. b ≢ 10) ys → AllByRecursion (λ b. b ≢ 10) (xs ++ ys)
join_no_break [] ys a b = b
join_no_break (x ∷ xs) ys a b = (a.0, join_no_break xs ys a.1 b)

map_no_break : (ds : List ℕ) → AllByRecursion (λ b. b ≢ 10) (map (λ d. 48 + d) ds)
map_no_break [] = tt
map_no_break (d ∷ ds) = (omega arith, map_no_break ds)

zero_no_break : AllByRecursion (λ b. b ≢ 10) (decimal 0)
unfolding digits
zero_no_break = (omega arith, tt)

digits_no_break : (n : ℕ) → n < 10 ^ 9 → AllByRecursion (λ b. b ≢ 10) (decimal n)
digits_no_break zero lt = zero_no_break
digits_no_break (suc n) lt = subst (AllByRecursion (λ b. b ≢ 10)) (sym (decimal-digits_of (suc n) (omega arith) (omega (arith, lt))))
    (map_no_break (digits_of 10 (suc n)))

pub spaced_no_break : (ns : List ℕ) → AllByRecursion IsShort ns → AllByRecursion (λ b. b ≢ 10) (spaced ns)
spaced_no_break [] h = tt
spaced_no_break (n ∷ ns) h = join_no_break (32 ∷ decimal n) (spaced ns) ((omega arith), digits_no_break n h.0) (spaced_no_break ns h.1)
