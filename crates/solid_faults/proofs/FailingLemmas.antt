-- What the names of failing obligations say of a list of obligations.
use Rattle.std.specs.Prelude.{◌≡◌, List, [], ◌∷◌, ◌++◌, map, flat_map}
use Rattle.std.proofs.Common.{refl, sym, ◌∙◌, ap, subst, inl, inr, ⊎_elim}
use Rattle.solid_data.specs.declared.verdict.Failing.{Failing}
use Rattle.solid_data.specs.Obligations.{Obligation, AllHold, FirstFalse, of_each}
use Rattle.solid_faults.specs.Failing.{AreFailing}

-- none fails: all hold
pub none_fails : (os : List Obligation) → AreFailing os [] → AllHold os
none_fails [] h = tt
none_fails (o ∷ os) h = (h.0, none_fails os h.1)

pub all_hold_none : (os : List Obligation) (xs : List Failing) → AllHold os → AreFailing os xs → xs ≡ []
all_hold_none [] xs all h = h
all_hold_none (o ∷ os) [] all h = refl
all_hold_none (o ∷ os) (x ∷ xs) all h = ⊎_elim (λ a. all_hold_none os (x ∷ xs) all.1 a.1) (λ b. absurd (b.0 all.0)) h

-- the first name is that of the first false obligation
pub first_fails : (os : List Obligation) (x : Failing) (xs : List Failing) → AreFailing os (x ∷ xs) → FirstFalse os x
first_fails [] x xs h = absurd cc
first_fails (o ∷ os) x xs h = ⊎_elim (λ a. inr (a.0, first_fails os x xs a.1)) (λ b. inl (b.0, b.1)) h

-- one more obligation that holds, and one that doesn't
pub holds_too : (o : Obligation) (os : List Obligation) (xs : List Failing) → o.holds → AreFailing os xs → AreFailing (o ∷ os) xs
holds_too o os [] h r = (h, r)
holds_too o os (x ∷ xs) h r = inl (h, r)

pub fails_too : (o : Obligation) (os : List Obligation) (x : Failing) (xs : List Failing) → (o.holds → ⊥) → x ≡ o.failing → AreFailing os xs
    → AreFailing (o ∷ os) (x ∷ xs)
fails_too o os x xs h e r = inr (h, e, r)

pub failing_append : (os ps : List Obligation) (xs ys : List Failing) → AreFailing os xs → AreFailing ps ys → AreFailing (os ++ ps) (xs ++ ys)
failing_append [] ps xs ys a b = subst (λ zs. AreFailing ps (zs ++ ys)) (sym a) b
failing_append (o ∷ os) ps [] ys a b = holds_too o (os ++ ps) ys a.0 (failing_append os ps [] ys a.1 b)
failing_append (o ∷ os) ps (x ∷ xs) ys a b =
    ⊎_elim (λ h. inl (h.0, failing_append os ps (x ∷ xs) ys h.1 b))
    (λ h. inr (h.0, h.1, failing_append os ps xs ys h.2 b)) a

-- the names of a list are definite
pub failing_one : (os : List Obligation) (xs ys : List Failing) → AreFailing os xs → AreFailing os ys → xs ≡ ys
failing_one [] xs ys a b = a ∙ sym b
failing_one (o ∷ os) [] [] a b = refl
failing_one (o ∷ os) [] (y ∷ ys) a b = ⊎_elim (λ h. failing_one os [] (y ∷ ys) a.1 h.1) (λ h. absurd (h.0 a.0)) b
failing_one (o ∷ os) (x ∷ xs) [] a b = ⊎_elim (λ h. failing_one os (x ∷ xs) [] h.1 b.1) (λ h. absurd (h.0 b.0)) a
failing_one (o ∷ os) (x ∷ xs) (y ∷ ys) a b =
    ⊎_elim (λ h. ⊎_elim (λ k. failing_one os (x ∷ xs) (y ∷ ys) h.1 k.1) (λ k. absurd (k.0 h.0)) b)
    (λ h. ⊎_elim (λ k. absurd (h.0 k.0)) (λ k. ap (λ z. z ∷ xs) (h.1 ∙ sym k.1) ∙ ap (λ zs. y ∷ zs) (failing_one os xs ys h.2 k.2)) b) a

-- the obligations of each item, and the things found at each
pub failing_of_each : {A B : Type 0} (f : A → List Obligation) (g : A → List B) (name : B → Failing) (xs : List A)
    → ((x : A) → AreFailing (f x) (map name (g x))) → AreFailing (of_each f xs) (map name (flat_map g xs))
failing_of_each f g name [] h = refl
failing_of_each {B = B} f g name (x ∷ xs) h =
    subst (AreFailing (f x ++ of_each f xs)) (sym (map_append (g x) (flat_map g xs)))
    (failing_append (f x) (of_each f xs) (map name (g x)) (map name (flat_map g xs)) (h x) (failing_of_each f g name xs h))
  where
    map_append : (ys zs : List B) → map name (ys ++ zs) ≡ map name ys ++ map name zs
    map_append [] zs = refl
    map_append (y ∷ ys) zs = ap (λ us. name y ∷ us) (map_append ys zs)

-- one obligation an item, which holds exactly where nothing is found there
pub failing_map : {A B : Type 0} (o : A → Obligation) (g : A → List B) (name : B → Failing) (xs : List A) → ((x : A) → AreFailing (o x ∷ []) (map name (g x)))
    → AreFailing (map o xs) (map name (flat_map g xs))
failing_map o g name xs h = subst (λ os. AreFailing os (map name (flat_map g xs))) (singles xs) (failing_of_each (λ x. o x ∷ []) g name xs h)
  where
    singles : (ys : _) → of_each (λ x. o x ∷ []) ys ≡ map o ys
    singles [] = refl
    singles (y ∷ ys) = ap (λ os. o y ∷ os) (singles ys)
