-- Members of lists that are mapped and tested.
use Rattle.std.specs.Prelude.{◌≡◌, ◌||◌, Bool, true, false, List, [], ◌∷◌, filter_map, Option, Some, None}
use Rattle.std.specs.List.{cons_option, list_all, list_any}
use Rattle.std.proofs.Common.{refl, sym, ◌∙◌, ap, inl, inr}
use Rattle.std.proofs.lemmas.Bool.{and_from, and_parts}
use Rattle.std.proofs.lemmas.Option.{same_Some}
use Rattle.solid_data.proofs.Members.{Has}

pub list_test : {X : Type 0} (p : X → Bool) (xs : List X) → ((x : X) → Has xs x → p x ≡ true) → list_all p xs ≡ true
list_test p [] h = refl
list_test p (x ∷ xs) h = and_from (p x) (list_all p xs) (h x (inl refl)) (list_test p xs (λ y m. h y (inr m)))

pub list_tested : {X : Type 0} (p : X → Bool) (xs : List X) → list_all p xs ≡ true → (x : X) → Has xs x → p x ≡ true
list_tested p [] t x h = absurd h
list_tested p (y ∷ xs) t x (inl e) = ap p (sym e) ∙ (and_parts (p y) (list_all p xs) t).0
list_tested p (y ∷ xs) t x (inr m) = list_tested p xs (and_parts (p y) (list_all p xs) t).1 x m

-- one that passes is there
pub any_passes : {X : Type 0} (p : X → Bool) (xs : List X) (x : X) → Has xs x → p x ≡ true → list_any p xs ≡ true
any_passes p [] x h t = absurd h
any_passes p (y ∷ xs) x (inl e) t = ap (λ b. b || list_any p xs) (ap p e ∙ t)
any_passes p (y ∷ xs) x (inr m) t = by_test (p y) (any_passes p xs x m t)
  where
    by_test : (b : Bool) → list_any p xs ≡ true → (b || list_any p xs) ≡ true
    by_test true h = refl
    by_test false h = h

option_first : {A : Type 0} (o : Option A) (xs : List A) (y : A) → o ≡ Some y → Has (cons_option o xs) y
option_first None xs y e = let no : None ≡ Some y = e in absurd cc
option_first (Some x) xs y e = inl (same_Some x y e)

option_later : {A : Type 0} (o : Option A) (xs : List A) (y : A) → Has xs y → Has (cons_option o xs) y
option_later None xs y h = h
option_later (Some x) xs y h = inr h

pub has_filter_map : {A B : Type 0} (g : A → Option B) (xs : List A) (x : A) (y : B) → Has xs x → g x ≡ Some y → Has (filter_map g xs) y
has_filter_map g [] x y h e = absurd h
has_filter_map g (z ∷ xs) x y (inl same) e = option_first (g z) (filter_map g xs) y (ap g same ∙ e)
has_filter_map g (z ∷ xs) x y (inr m) e = option_later (g z) (filter_map g xs) y (has_filter_map g xs x y m e)
