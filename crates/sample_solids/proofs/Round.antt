-- Numbers below n, the next of each and the one before, where 0 comes after n - 1.
use Rattle.std.specs.Prelude.{◌≡◌, ℕ, zero, suc, ◌+◌, ◌-◌, ◌%◌, ◌<◌, ◌≤◌}
use Rattle.std.proofs.Common.{sym, ◌∙◌, ap, arith, ⊎_elim}
use Rattle.std.proofs.Math.Nat.{mod-eq_of_lt, mod-lt, mod_self}
use Rattle.std.proofs.lemmas.Bool.{cases_lt}

abbrev pub next : ℕ → ℕ → ℕ
next n i = (i + 1) % n

abbrev pub back : ℕ → ℕ → ℕ
back n zero = n - 1
back n (suc i) = i

pub next_below : (n i : ℕ) → 0 < n → next n i < n
next_below n i some = mod-lt (i + 1) some

pub back_below : (n i : ℕ) → i < n → back n i < n
back_below n zero lt = omega (arith, lt)
back_below n (suc i) lt = omega (arith, lt)

pub next_small : (n i : ℕ) → i + 1 < n → next n i ≡ i + 1
next_small n i lt = mod-eq_of_lt lt

pub next_last : (n i : ℕ) → i + 1 ≡ n → next n i ≡ 0
next_last n i e = ap (λ k. k % n) e ∙ mod_self n

pub next_back : (n i : ℕ) → i < n → next n (back n i) ≡ i
next_back n zero lt = next_last n (n - 1) (omega (arith, lt))
next_back n (suc i) lt = next_small n i (omega (arith, lt)) ∙ omega arith

pub back_next : (n i k : ℕ) → i < n → next n i ≡ k → i ≡ back n k
back_next n i k lt e = ⊎_elim
    (λ (small : i + 1 < n). let h : suc i ≡ k = omega (arith, next_small n i small, e) in ap (back n) h)
    (λ (large : n ≤ i + 1). let last : i + 1 ≡ n = omega (arith, large, lt) in let h : 0 ≡ k = sym (next_last n i last) ∙ e
    in let w : i ≡ n - 1 = omega (arith, last) in w ∙ ap (back n) h)
    (cases_lt (i + 1) n)
