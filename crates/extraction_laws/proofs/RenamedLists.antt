-- Lists without repeats, under another name for each element.
use Rattle.std.specs.Prelude.{◌≡◌, ℕ, suc, ◌==◌, Bool, true, false, not, cond, List, [], ◌∷◌, map, filter, if◌then◌else◌}
use Rattle.std.specs.List.{AllByRecursion, AllZip}
use Rattle.std.proofs.Common.{refl, ◌∙◌, ap, inl, inr}
use Rattle.solid_data.specs.Ring.{distinct, place_of}
use Rattle.solid_data.proofs.Members.{Has, All-at, All-from}
use Rattle.solid_data.proofs.Keys.{from_distinct}
use Rattle.entry_references.proofs.Marks.{same_test}

filter_renamed : {A : Type 0} (p r : A → Bool) (change : A → A) (xs : List A) → ((x : A) → Has xs x → p (change x) ≡ r x)
    → filter p (map change xs) ≡ map change (filter r xs)
filter_renamed p r change [] same = refl
filter_renamed p r change (x ∷ xs) same =
    ap (λ b. cond b (change x ∷ filter p (map change xs)) (filter p (map change xs))) (same x (inl refl))
    ∙ (ap (λ ys. cond (r x) (change x ∷ ys) ys) (filter_renamed p r change xs (λ y m. same y (inr m)))
    ∙ by_test (r x))
  where
    by_test : (b : Bool) → cond b (change x ∷ map change (filter r xs)) (map change (filter r xs)) ≡ map change (cond b (x ∷ filter r xs) (filter r xs))
    by_test true = refl
    by_test false = refl

module _ {A : Type 0} (same : A → A → Bool) (P : A → Type 0) (change : A → A) (kept : (x y : A) → P x → P y → same (change x) (change y) ≡ same x y) where
  pub all_distinct : (xs : List A) → AllByRecursion P xs → AllByRecursion P (distinct same xs)
  all_distinct xs all = All-from P (distinct same xs) (λ x m. All-at P xs all x (from_distinct same xs x m))

  pub distinct_renamed : (xs : List A) → AllByRecursion P xs → distinct same (map change xs) ≡ map change (distinct same xs)
  distinct_renamed [] all = refl
  distinct_renamed (x ∷ xs) all =
      ap (λ ys. change x ∷ filter (λ y. not (same (change x) y)) ys) (distinct_renamed xs all.1)
      ∙ ap (λ ys. change x ∷ ys)
      (filter_renamed (λ y. not (same (change x) y)) (λ y. not (same x y)) change (distinct same xs)
      (λ y m. ap not (kept x y all.0 (All-at P (distinct same xs) (all_distinct xs all.1) y m))))

  pub place_renamed : (xs : List A) (k : A) → AllByRecursion P xs → P k → place_of same (map change xs) (change k) ≡ place_of same xs k
  place_renamed [] k all p = refl
  place_renamed (x ∷ xs) k all p =
      ap (λ b. if b then 0 else suc (place_of same (map change xs) (change k))) (kept k x p all.0)
      ∙ ap (λ n. if same k x then 0 else suc n) (place_renamed xs k all.1 p)

-- numbers that are told apart as their new ones are
pub same_number : (K : ℕ → Type 0) (new : ℕ → ℕ) → ((m k : ℕ) → K m → K k → new m ≡ new k → m ≡ k) → (m k : ℕ) → K m → K k → (new m == new k) ≡ (m == k)
same_number K new apart m k a b = same_test (new m) (new k) m k (apart m k a b) (ap new)

pub map_known : {A B C : Type 0} (Known : A → Type 0) (change : A → B) (u : A → C) (v : B → C) → ((x : A) → Known x → v (change x) ≡ u x) → (xs : List A)
    → AllByRecursion Known xs → map v (map change xs) ≡ map u xs
map_known Known change u v same [] all = refl
map_known Known change u v same (x ∷ xs) all = ap (λ y. y ∷ map v (map change xs)) (same x all.0)
    ∙ ap (λ ys. u x ∷ ys) (map_known Known change u v same xs all.1)

pub zip_known : {A B C D : Type 0} (Known : A → Type 0) (Q : C → D → Type 0) (change : A → B) (u : A → C) (v : B → D)
    → ((x : A) → Known x → Q (u x) (v (change x))) → (xs : List A) → AllByRecursion Known xs → AllZip Q (map u xs) (map v (map change xs))
zip_known Known Q change u v same [] all = tt
zip_known Known Q change u v same (x ∷ xs) all = (same x all.0, zip_known Known Q change u v same xs all.1)
