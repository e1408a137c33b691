-- Keys put in one after the other are those without repeats.
use Rattle.std.specs.Prelude.{◌≡◌, ◌&&◌, ◌||◌, Bool, true, false, not, cond, List, [], ◌∷◌, ◌++◌, filter, if◌then◌else◌}
use Rattle.std.specs.List.{list_any}
use Rattle.std.proofs.Common.{refl, sym, ◌∙◌, ap, append_assoc}
use Rattle.std.proofs.lemmas.List.{append-nil}
use Rattle.std.proofs.lemmas.List.Folds.{list_any-append}
use Rattle.indexmap.specs.IndexSet.{insert_all}
use Rattle.solid_data.specs.Ring.{distinct}

-- one filter over another
filter_both : {A : Type 0} (p q r : A → Bool) → ((x : A) → r x ≡ (q x && p x)) → (xs : List A) → filter p (filter q xs) ≡ filter r xs
filter_both p q r both [] = refl
filter_both {A} p q r both (x ∷ xs) = by_test (q x) (p x) refl (filter_both p q r both xs) ∙ ap (λ b. cond b (x ∷ filter r xs) (filter r xs)) (sym (both x))
  where
    by_test : (s t : Bool) → p x ≡ t → filter p (filter q xs) ≡ filter r xs → filter p (cond s (x ∷ filter q xs) (filter q xs))
        ≡ cond (s && t) (x ∷ filter r xs) (filter r xs)
    by_test false t e rest = rest
    by_test true true e rest = ap (λ b. cond b (x ∷ filter p (filter q xs)) (filter p (filter q xs))) e ∙ ap (λ l. x ∷ l) rest
    by_test true false e rest = ap (λ b. cond b (x ∷ filter p (filter q xs)) (filter p (filter q xs))) e ∙ rest

filter_all : {A : Type 0} (p : A → Bool) → ((x : A) → p x ≡ true) → (xs : List A) → filter p xs ≡ xs
filter_all p h [] = refl
filter_all p h (x ∷ xs) = ap (λ b. cond b (x ∷ filter p xs) (filter p xs)) (h x) ∙ ap (λ l. x ∷ l) (filter_all p h xs)

module _ {A : Type 0} (same : A → A → Bool) (sound : (a b : A) → same a b ≡ true → a ≡ b) (itself : (a : A) → same a a ≡ true) where
  swap : (a b : A) → same a b ≡ same b a
  swap a b = by_test (same a b) refl (same b a) refl
    where
      by_test : (s : Bool) → same a b ≡ s → (t : Bool) → same b a ≡ t → s ≡ t
      by_test true e true d = refl
      by_test false e false d = refl
      by_test true e false d = sym (ap (same b) (sound a b e) ∙ itself b) ∙ d
      by_test false e true d = sym (sym (ap (same a) (sound b a d) ∙ itself a) ∙ e)

  abbrev absent : List A → A → Bool
  absent ks y = not (list_any (same y) ks)

  -- those absent from ks, when x is among these, are apart from x
  absent_known : (ks : List A) (x : A) → list_any (same x) ks ≡ true → (y : A) → absent ks y ≡ (not (same x y) && absent ks y)
  absent_known ks x there y = by_test (same x y) refl
    where
      by_test : (s : Bool) → same x y ≡ s → absent ks y ≡ (not s && absent ks y)
      by_test false e = refl
      by_test true e = ap not (ap (λ z. list_any (same z) ks) (sym (sound x y e)) ∙ there)

  absent_more : (ks : List A) (x y : A) → absent (ks ++ x ∷ []) y ≡ (not (same x y) && absent ks y)
  absent_more ks x y = ap not (list_any-append (same y) ks (x ∷ [])) ∙ by_test (list_any (same y) ks) (same y x) (same x y) (swap y x)
    where
      by_test : (a s t : Bool) → s ≡ t → not (a || (s || false)) ≡ (not t && not a)
      by_test true s true e = refl
      by_test true s false e = refl
      by_test false s t e = by_half s t e
        where
          by_half : (s t : Bool) → s ≡ t → not (s || false) ≡ (not t && true)
          by_half true true e = refl
          by_half false false e = refl
          by_half true false e = sym e
          by_half false true e = sym e

  inserted_after : (ks xs : List A) → insert_all same ks xs ≡ ks ++ filter (absent ks) (distinct same xs)
  inserted_after ks [] = sym (append-nil ks)
  inserted_after ks (x ∷ xs) = by_test (list_any (same x) ks) refl (inserted_after ks xs) (inserted_after (ks ++ x ∷ []) xs)
    where
      later : List A
      later = filter (λ y. not (same x y)) (distinct same xs)

      by_test : (b : Bool) → list_any (same x) ks ≡ b → insert_all same ks xs ≡ ks ++ filter (absent ks) (distinct same xs)
          → insert_all same (ks ++ x ∷ []) xs ≡ (ks ++ x ∷ []) ++ filter (absent (ks ++ x ∷ [])) (distinct same xs)
          → insert_all same (if b then ks else ks ++ x ∷ []) xs ≡ ks ++ cond (not b) (x ∷ filter (absent ks) later) (filter (absent ks) later)
      by_test true e here more =
          here ∙ ap (λ l. ks ++ l) (sym (filter_both (absent ks) (λ y. not (same x y)) (absent ks) (absent_known ks x e) (distinct same xs)))
      by_test false e here more =
          more
          ∙ (append_assoc ks (x ∷ []) (filter (absent (ks ++ x ∷ [])) (distinct same xs))
          ∙ ap (λ l. ks ++ (x ∷ l)) (sym (filter_both (absent ks) (λ y. not (same x y)) (absent (ks ++ x ∷ [])) (absent_more ks x) (distinct same xs))))

  pub insert_all-distinct : (xs : List A) → insert_all same [] xs ≡ distinct same xs
  insert_all-distinct xs = inserted_after [] xs ∙ filter_all (absent []) (λ y. refl) (distinct same xs)
