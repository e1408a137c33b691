-- Lists that are related item by item.
use Rattle.std.specs.Prelude.{◌≡◌, ℕ, zero, suc, ◌+◌, List, [], ◌∷◌, ◌++◌, map, flat_map, take, Option, Some, None, slice_get}
use Rattle.std.specs.List.{AllZip, enumerate_from}
use Rattle.std.proofs.Common.{refl, ◌∙◌, ap}

-- both are there and related, or neither is there
abbrev pub OptionZip : {A B : Type 0} → (A → B → Type 0) → Option A → Option B → Type 0
OptionZip Q None None = Unit {0}
OptionZip Q None (Some y) = ⊥
OptionZip Q (Some x) None = ⊥
OptionZip Q (Some x) (Some y) = Q x y

pub zip_get : {A B : Type 0} (Q : A → B → Type 0) (xs : List A) (ys : List B) (k : ℕ) → AllZip Q xs ys → OptionZip Q (slice_get xs k) (slice_get ys k)
zip_get Q [] [] k z = tt
zip_get Q [] (y ∷ ys) k z = absurd z
zip_get Q (x ∷ xs) [] k z = absurd z
zip_get Q (x ∷ xs) (y ∷ ys) zero z = z.0
zip_get Q (x ∷ xs) (y ∷ ys) (suc k) z = zip_get Q xs ys k z.1

pub zip_append : {A B : Type 0} (Q : A → B → Type 0) (xs us : List A) (ys vs : List B) → AllZip Q xs ys → AllZip Q us vs → AllZip Q (xs ++ us) (ys ++ vs)
zip_append Q [] us [] vs z w = w
zip_append Q [] us (y ∷ ys) vs z w = absurd z
zip_append Q (x ∷ xs) us [] vs z w = absurd z
zip_append Q (x ∷ xs) us (y ∷ ys) vs z w = (z.0, zip_append Q xs us ys vs z.1 w)

pub zip_map : {A B C D : Type 0} (Q : A → B → Type 0) (P : C → D → Type 0) (f : A → C) (g : B → D) (xs : List A) (ys : List B) → AllZip Q xs ys
    → ((x : A) (y : B) → Q x y → P (f x) (g y)) → AllZip P (map f xs) (map g ys)
zip_map Q P f g [] [] z h = tt
zip_map Q P f g [] (y ∷ ys) z h = absurd z
zip_map Q P f g (x ∷ xs) [] z h = absurd z
zip_map Q P f g (x ∷ xs) (y ∷ ys) z h = (h x y z.0, zip_map Q P f g xs ys z.1 h)

pub zip_flat_map : {A B C D : Type 0} (Q : A → B → Type 0) (P : C → D → Type 0) (f : A → List C) (g : B → List D) (xs : List A) (ys : List B) → AllZip Q xs ys
    → ((x : A) (y : B) → Q x y → AllZip P (f x) (g y)) → AllZip P (flat_map f xs) (flat_map g ys)
zip_flat_map Q P f g [] [] z h = tt
zip_flat_map Q P f g [] (y ∷ ys) z h = absurd z
zip_flat_map Q P f g (x ∷ xs) [] z h = absurd z
zip_flat_map Q P f g (x ∷ xs) (y ∷ ys) z h = zip_append P (f x) (flat_map f xs) (g y) (flat_map g ys) (h x y z.0) (zip_flat_map Q P f g xs ys z.1 h)

-- the same number, and related items
abbrev pub Numbered : {A B : Type 0} → (A → B → Type 0) → ℕ × A → ℕ × B → Type 0
Numbered Q x y = (x.0 ≡ y.0) × Q x.1 y.1

pub zip_enumerate : {A B : Type 0} (Q : A → B → Type 0) (n : ℕ) (xs : List A) (ys : List B) → AllZip Q xs ys
    → AllZip (Numbered Q) (enumerate_from n xs) (enumerate_from n ys)
zip_enumerate Q n [] [] z = tt
zip_enumerate Q n [] (y ∷ ys) z = absurd z
zip_enumerate Q n (x ∷ xs) [] z = absurd z
zip_enumerate Q n (x ∷ xs) (y ∷ ys) z = ((refl, z.0), zip_enumerate Q (n + 1) xs ys z.1)

pub zip_take : {A B : Type 0} (Q : A → B → Type 0) (n : ℕ) (xs : List A) (ys : List B) → AllZip Q xs ys → AllZip Q (take n xs) (take n ys)
zip_take Q zero xs ys z = tt
zip_take Q (suc n) [] [] z = tt
zip_take Q (suc n) [] (y ∷ ys) z = absurd z
zip_take Q (suc n) (x ∷ xs) [] z = absurd z
zip_take Q (suc n) (x ∷ xs) (y ∷ ys) z = (z.0, zip_take Q n xs ys z.1)

-- what related items give alike, the lists give alike
pub zip_same : {A B C : Type 0} (Q : A → B → Type 0) (f : A → List C) (g : B → List C) (xs : List A) (ys : List B) → AllZip Q xs ys
    → ((x : A) (y : B) → Q x y → f x ≡ g y) → flat_map f xs ≡ flat_map g ys
zip_same Q f g [] [] z h = refl
zip_same Q f g [] (y ∷ ys) z h = absurd z
zip_same Q f g (x ∷ xs) [] z h = absurd z
zip_same Q f g (x ∷ xs) (y ∷ ys) z h = ap (λ zs. zs ++ flat_map f xs) (h x y z.0) ∙ ap (λ zs. g y ++ zs) (zip_same Q f g xs ys z.1 h)
