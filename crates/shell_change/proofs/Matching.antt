-- Lists that are compared item by item, as far as a loop has come.
use Rattle.std.specs.Prelude.{◌≡◌, ◌<◌, ◌≤◌, ◌+◌, ◌↔◌, ◌⊎◌, ℕ, suc, List, [], ◌∷◌, length, IsTrue, true, false, Some, slice_get}
use Rattle.std.proofs.Common.{arith, refl, sym, ◌∙◌, ap, subst, inl, inr, ⊎_elim}
use Rattle.std.proofs.lemmas.Bool.{false≢true}
use Rattle.std.proofs.lemmas.Bool.Decides.{leb_tells}
use Rattle.std.proofs.lemmas.Option.{same_Some, slice_get_within}
use Rattle.shell_change.specs.Matching.{EachAt, Matched}

-- R holds of each item before place n
pub record EachBelow {A : Type 0} (R : ℕ → A → Type 0) (xs : List A) (n : ℕ) : Type 0 where
  pub below : (i : ℕ) (x : A) → i < n → slice_get xs i ≡ Some x → R i x

pub none_below : {A : Type 0} (R : ℕ → A → Type 0) (xs : List A) → EachBelow R xs 0
none_below R xs = record { below = λ i x lt at. absurd (omega (arith, lt)) }

pub last_or : (i n : ℕ) → i < n + 1 → (i < n) ⊎ (i ≡ n)
last_or i n lt = ⊎_elim (λ a. inr (omega (arith, lt, a.1))) (λ b. inl b.1) (leb_tells n i)

pub one_below : {A : Type 0} (R : ℕ → A → Type 0) (xs : List A) (n : ℕ) (x : A) → slice_get xs n ≡ Some x → R n x → EachBelow R xs n → EachBelow R xs (n + 1)
one_below {A = A} R xs n x at holds h =
    record {
      below = λ i y lt has.
          ⊎_elim (λ p. h.below i y p has)
          (λ e. subst (λ k. R k y) (sym e) (subst (R n) (same_Some x y (sym at ∙ (sym (ap (λ k. slice_get xs k) e) ∙ has))) holds)) (last_or i n lt);
    }

pub all_below : {A : Type 0} (R : ℕ → A → Type 0) (xs : List A) (n : ℕ) → length xs ≤ n → EachBelow R xs n → EachAt R xs
all_below R xs n past h = record { at = λ i x at. h.below i x (omega (arith, past, slice_get_within xs i x at)) at }

-- ---- two lists

abbrev pub each_pair : {A B : Type 0} → (A → B → Type 0) → List A → ℕ → B → Type 0
each_pair {A = A} R xs i y = (x : A) → slice_get xs i ≡ Some x → R x y

pub pair_below : {A B : Type 0} (R : A → B → Type 0) (xs : List A) (ys : List B) (n : ℕ) (x : A) (y : B) → slice_get xs n ≡ Some x → slice_get ys n ≡ Some y
    → R x y → EachBelow (each_pair R xs) ys n → EachBelow (each_pair R xs) ys (n + 1)
pair_below R xs ys n x y at_x at_y holds h =
    one_below (each_pair R xs) ys n y at_y (λ z at_z. subst (λ w. R w y) (same_Some x z (sym at_x ∙ at_z)) holds) h

-- lists of one length with the same items
pub matched_same : {A : Type 0} (xs ys : List A) → Matched (λ (x y : A). x ≡ y) xs ys → xs ≡ ys
matched_same [] [] m = refl
matched_same [] (y ∷ ys) m = absurd (omega (arith, m.one_length))
matched_same (x ∷ xs) [] m = absurd (omega (arith, m.one_length))
matched_same {A = A} (x ∷ xs) (y ∷ ys) m =
    let rest : Matched (λ (x y : A). x ≡ y) xs ys = record { one_length = omega (arith, m.one_length); each = record { at = λ i b at_b a at_a. m.each.at (suc i) b at_b a at_a } } in
    ap (λ z. z ∷ xs) (m.each.at 0 y refl x refl) ∙ ap (λ zs. y ∷ zs) (matched_same xs ys rest)

-- ---- answers

pub each_fails : {A : Type 0} (R : ℕ → A → Type 0) (xs : List A) (n : ℕ) (x : A) → slice_get xs n ≡ Some x → (R n x → IsTrue false)
    → IsTrue false ↔ EachAt R xs
each_fails R xs n x at fails = ((λ t. absurd (false≢true t)), (λ h. fails (h.at n x at)))

pub each_holds : {A : Type 0} (R : ℕ → A → Type 0) (xs : List A) (n : ℕ) → length xs ≤ n → EachBelow R xs n → IsTrue true ↔ EachAt R xs
each_holds R xs n past h = ((λ t. all_below R xs n past h), (λ e. refl))

pub lengths_differ : {A B : Type 0} (R : A → B → Type 0) (xs : List A) (ys : List B) → (length xs ≡ length ys → ⊥) → IsTrue false ↔ Matched R xs ys
lengths_differ R xs ys differ = ((λ t. absurd (false≢true t)), (λ m. absurd (differ m.one_length)))

pub pair_fails : {A B : Type 0} (R : A → B → Type 0) (xs : List A) (ys : List B) (n : ℕ) (x : A) (y : B) → slice_get xs n ≡ Some x → slice_get ys n ≡ Some y
    → (R x y → IsTrue false) → IsTrue false ↔ Matched R xs ys
pair_fails R xs ys n x y at_x at_y fails = ((λ t. absurd (false≢true t)), (λ m. fails (m.each.at n y at_y x at_x)))

pub pairs_hold : {A B : Type 0} (R : A → B → Type 0) (xs : List A) (ys : List B) (n : ℕ) → length xs ≡ length ys → length ys ≤ n
    → EachBelow (each_pair R xs) ys n → IsTrue true ↔ Matched R xs ys
pairs_hold R xs ys n same past h = ((λ t. record { one_length = same; each = all_below (each_pair R xs) ys n past h }), (λ m. refl))

pub item_differs : {A : Type 0} (xs ys : List A) (n : ℕ) (x y : A) → slice_get xs n ≡ Some x → slice_get ys n ≡ Some y → (x ≡ y → IsTrue false)
    → IsTrue false ↔ (xs ≡ ys)
item_differs xs ys n x y at_x at_y differ =
    ((λ t. absurd (false≢true t)), (λ e. differ (same_Some x y (sym at_x ∙ (ap (λ zs. slice_get zs n) e ∙ at_y)))))

pub items_same : {A : Type 0} (xs ys : List A) (n : ℕ) → length xs ≡ length ys → length ys ≤ n → EachBelow (each_pair (λ (x y : A). x ≡ y) xs) ys n
    → IsTrue true ↔ (xs ≡ ys)
items_same {A = A} xs ys n same past h =
    ((λ t. matched_same xs ys (record { one_length = same; each = all_below (each_pair (λ (x y : A). x ≡ y) xs) ys n past h })), (λ e. refl))
