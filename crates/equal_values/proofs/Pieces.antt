-- Digits in two pieces, and zeros at their ends.
use Rattle.std.proofs.Common.{◌≡◌, ℕ, ◌-◌, ◌<◌, ◌≤◌, List, [], ◌∷◌, ◌++◌, length, take, get_or, reverse, refl, sym, ap, subst, ◌∙◌, arith}
use Rattle.std.specs.Prelude.{◌==◌, true, false}
use Rattle.std.proofs.lemmas.Bool.{both_ways, eqb-true}
use Rattle.std.proofs.lemmas.List.{append-nil, length-reverse, reverse-append, reverse-reverse, take_more}
use Rattle.equal_values.specs.Canonical.{after_zeros, before_zeros}
use Rattle.equal_values.proofs.Zeros.{after_zeros-append, left_behind, before_zeros-zeros}

pub before_zeros-zero : (xs : List ℕ) (n : ℕ) → 0 < n → n ≤ length xs → get_or xs (n - 1) 0 ≡ 48 → before_zeros (take n xs) ≡ before_zeros (take (n - 1) xs)
before_zeros-zero xs n some within is =
    let last : take n xs ≡ take (n - 1) xs ++ 48 ∷ [] = subst (λ (m : ℕ). take m xs ≡ take (n - 1) xs ++ 48 ∷ []) (omega arith)
    (take_more xs (n - 1) 0 (omega arith) ∙ ap (λ (b : ℕ). take (n - 1) xs ++ b ∷ []) is) in
    ap before_zeros last ∙ before_zeros-zeros (take (n - 1) xs) 1

empty : (xs : List ℕ) → (length xs == 0) ≡ true → xs ≡ []
empty [] e = refl
empty (x ∷ xs) e = absurd (let none = eqb-true (length (x ∷ xs)) 0 e in omega (arith, none))

filled : (xs : List ℕ) → (length xs == 0) ≡ false → (x : ℕ) × (ys : List ℕ) × (xs ≡ x ∷ ys)
filled [] e = absurd (both_ways (length {A = ℕ} [] == 0) e refl)
filled (x ∷ xs) e = (x, xs, refl)

-- the first piece has nothing but zeros, or it has more
pub behind_none : (xs ys front back : List ℕ) → front ≡ after_zeros xs → back ≡ after_zeros ys → (length front == 0) ≡ true
    → front ++ back ≡ after_zeros (xs ++ ys)
behind_none xs ys front back e f none =
    let no : front ≡ [] = empty front none in
    ap (λ (t : List ℕ). t ++ back) no ∙ f ∙ sym (after_zeros-append xs ys ∙ ap (λ (t : List ℕ). left_behind t ys) (sym e ∙ no))

pub behind_some : (xs ys front : List ℕ) → front ≡ after_zeros xs → (length front == 0) ≡ false → front ++ ys ≡ after_zeros (xs ++ ys)
behind_some xs ys front e some =
    let is = filled front some in
    ap (λ (t : List ℕ). t ++ ys) is.2 ∙ sym (after_zeros-append xs ys ∙ ap (λ (t : List ℕ). left_behind t ys) (sym e ∙ is.2))

turned : (xs ys : List ℕ) → before_zeros (xs ++ ys) ≡ reverse (left_behind (after_zeros (reverse ys)) (reverse xs))
turned xs ys = ap (λ (t : List ℕ). reverse (after_zeros t)) (reverse-append xs ys) ∙ ap reverse (after_zeros-append (reverse ys) (reverse xs))

-- the same of the last piece
pub up_to_none : (xs ys front back : List ℕ) → front ≡ before_zeros xs → back ≡ before_zeros ys → (length back == 0) ≡ true
    → front ++ back ≡ before_zeros (xs ++ ys)
up_to_none xs ys front back e f none =
    let no : back ≡ [] = empty back none in
    let left : after_zeros (reverse ys) ≡ [] = sym (reverse-reverse (after_zeros (reverse ys))) ∙ ap reverse (sym f ∙ no) in
    ap (λ (t : List ℕ). front ++ t) no ∙ append-nil front ∙ e ∙ sym (turned xs ys ∙ ap (λ (t : List ℕ). reverse (left_behind t (reverse xs))) left)

pub up_to_some : (xs ys back : List ℕ) → back ≡ before_zeros ys → (length back == 0) ≡ false → xs ++ back ≡ before_zeros (xs ++ ys)
up_to_some xs ys back f some =
    let is = filled (after_zeros (reverse ys)) (ap (λ (n : ℕ). n == 0) (sym (ap length f ∙ length-reverse (after_zeros (reverse ys)))) ∙ some) in
    let whole : before_zeros (xs ++ ys) ≡ reverse (is.0 ∷ is.1 ++ reverse xs) =
    turned xs ys ∙ ap (λ (t : List ℕ). reverse (left_behind t (reverse xs))) is.2 in
    let parts : reverse ((is.0 ∷ is.1) ++ reverse xs) ≡ xs ++ back =
    reverse-append (is.0 ∷ is.1) (reverse xs) ∙ ap (λ (t : List ℕ). t ++ reverse (is.0 ∷ is.1)) (reverse-reverse xs)
    ∙ ap (λ (t : List ℕ). xs ++ t) (ap reverse (sym is.2) ∙ sym f) in
    sym (whole ∙ parts)
