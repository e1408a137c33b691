-- Lists that are compared item by item.
use Rattle.std.specs.Prelude.{◌≡◌, ◌<◌, ◌++◌, ◌⊎◌, ℕ, zero, suc, List, [], ◌∷◌, length, map, Some, slice_get, option_map}
use Rattle.std.proofs.Common.{refl, sym, ◌∙◌, ap, subst, arith, inl, inr, ⊎_elim, length-append}
use Rattle.std.proofs.lemmas.List.{length-map}
use Rattle.std.proofs.lemmas.Option.{same_Some, slice_get_within, slice_get-map}
use Rattle.solid_data.proofs.Members.{get_some}
use Rattle.shell_change.specs.Matching.{Matched}

pub matched_none : {A B : Type 0} (R : A → B → Type 0) → Matched R [] []
matched_none {B = B} R = record { one_length = refl; each = record { at = λ i y at. absurd (omega (arith, slice_get_within {A = B} [] i y at)) } }

-- an item of a longer list is one of the list, or the last one
get_last : {A : Type 0} (xs : List A) (x : A) (i : ℕ) (y : A) → slice_get (xs ++ x ∷ []) i ≡ Some y → (slice_get xs i ≡ Some y) ⊎ ((i ≡ length xs) × (x ≡ y))
get_last [] x zero y at = inr (refl, same_Some x y at)
get_last {A = A} [] x (suc i) y at = absurd (omega (arith, slice_get_within {A = A} (x ∷ []) (suc i) y at))
get_last (z ∷ xs) x zero y at = inl at
get_last (z ∷ xs) x (suc i) y at = ⊎_elim (λ h. inl h) (λ h. inr (ap suc h.0, h.1)) (get_last xs x i y at)

-- both lists have one more item
pub matched_last : {A B : Type 0} (R : A → B → Type 0) (xs : List A) (ys : List B) (x : A) (y : B) → Matched R xs ys → R x y
    → Matched R (xs ++ x ∷ []) (ys ++ y ∷ [])
matched_last {A = A} {B = B} R xs ys x y m holds =
    record {
      one_length = omega (arith, m.one_length, length-append xs (x ∷ []), length-append ys (y ∷ []));
      each = record { at = λ i b at_b a at_a. here i b a (get_last ys y i b at_b) (get_last xs x i a at_a) };
    }
  where
    here : (i : ℕ) (b : B) (a : A) → (slice_get ys i ≡ Some b) ⊎ ((i ≡ length ys) × (y ≡ b)) → (slice_get xs i ≡ Some a) ⊎ ((i ≡ length xs) × (x ≡ a)) → R a b
    here i b a (inl p) (inl q) = m.each.at i b p a q
    here i b a (inl p) (inr q) = absurd (omega (arith, slice_get_within ys i b p, q.0, m.one_length))
    here i b a (inr p) (inl q) = absurd (omega (arith, slice_get_within xs i a q, p.0, m.one_length))
    here i b a (inr p) (inr q) = subst (λ z. R z b) q.1 (subst (λ z. R x z) p.1 holds)

-- one item each
pub matched_one : {A B : Type 0} (R : A → B → Type 0) (x : A) (ys : List B) (y : B) → length ys ≡ 1 → slice_get ys 0 ≡ Some y → R x y → Matched R (x ∷ []) ys
matched_one R x [] y len at holds = absurd (omega (arith, len))
matched_one R x (z ∷ w ∷ ys) y len at holds = absurd (omega (arith, len))
matched_one R x (z ∷ []) y len at holds = matched_last R [] [] x z (matched_none R) (subst (R x) (sym (same_Some z y at)) holds)

-- items that were made of others
pub matched_map : {A B C : Type 0} (f : A → C) (R : C → B → Type 0) (xs : List A) (ys : List B) → Matched (λ x y. R (f x) y) xs ys → Matched R (map f xs) ys
matched_map f R xs ys m =
    record {
      one_length = length-map xs f ∙ m.one_length;
      each = record {
        at = λ i y at_y z at_z.
            let lt : i < length xs = omega (arith, slice_get_within ys i y at_y, m.one_length) in
            let x = get_some xs i lt in
            subst (λ w. R w y) (same_Some (f x.0) z (sym (slice_get-map f xs i ∙ ap (option_map f) x.1) ∙ at_z)) (m.each.at i y at_y x.0 x.1);
      };
    }
