-- A space before the digits at the end of a buffer.
use Rattle.std.proofs.Common.{rules, decimal, ◌≡◌, ◌<◌, ◌≤◌, ◌+◌, ◌-◌, ◌^◌, ◌∷◌, ◌++◌, [], ℕ, List, length, drop, take, set, ◌∙◌, ap, arith}
use Rattle.std.proofs.lemmas.Fmt.{length-decimal-le}
use Rattle.std.proofs.lemmas.List.{append-nil, drop-set, take_all}

-- a number of 64 bits has at most twenty digits
pub digits_fit : (n : ℕ) → n < 2 ^ 64 → length (decimal n) ≤ 20
digits_fit n h = search (rules, length-decimal-le 20)

pub spaced : (b ds : List ℕ) (n s : ℕ) → length b ≡ n → s + length ds ≡ n → 1 ≤ s → drop s b ≡ ds ++ []
    → take (n - (s - 1)) (drop (s - 1) (set b (s - 1) 32)) ≡ 32 ∷ ds
spaced b ds n s len ends some written =
    let k : s - 1 + 1 ≡ s = omega (arith, some) in
    let digits : drop (s - 1) (set b (s - 1) 32) ≡ 32 ∷ ds =
    drop-set b (s - 1) 32 (omega (arith, len, ends, some)) ∙ ap (λ (i : ℕ). 32 ∷ drop i b) k ∙ ap (λ (xs : List ℕ). 32 ∷ xs) (written ∙ append-nil ds) in
    ap (take (n - (s - 1))) digits ∙ take_all (n - (s - 1)) (32 ∷ ds) (omega (arith, ends, some))
