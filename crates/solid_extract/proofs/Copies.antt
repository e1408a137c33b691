-- Lists by their places, and lists that are copied item by item.
use Rattle.std.specs.Prelude.{◌≡◌, ℕ, zero, suc, ◌+◌, ◌≤◌, List, [], ◌∷◌, ◌++◌, length, take, filter_map, Option, Some, None, slice_get}
use Rattle.std.specs.List.{AllByRecursion, AllZip, cons_option}
use Rattle.std.proofs.Common.{refl, sym, ap, subst, ◌∙◌, arith}
use Rattle.std.proofs.lemmas.List.{take_more}
use Rattle.std.proofs.lemmas.List.Elements.{All-from_recursion}
use Rattle.std.proofs.lemmas.Option.{get_or_from_slice_get, slice_get_within, none-some, same_Some}

pub all_at : {A : Type 0} (P : A → Type 0) (xs : List A) (k : ℕ) (x : A) → AllByRecursion P xs → slice_get xs k ≡ Some x → P x
all_at P xs k x h at = subst P (get_or_from_slice_get xs k x x at) (All-from_recursion P xs h k x (slice_get_within xs k x at))

-- what stands at a place of the one list is related to what stands there in the other
pub zip_at : {A B : Type 0} (Q : A → B → Type 0) (xs : List A) (ys : List B) (k : ℕ) (x : A) → AllZip Q xs ys → slice_get xs k ≡ Some x
    → (y : B) × (slice_get ys k ≡ Some y) × Q x y
zip_at Q [] ys k x z at = absurd (none-some x at)
zip_at Q (a ∷ xs) [] k x z at = absurd z
zip_at {B = B} Q (a ∷ xs) (b ∷ ys) zero x z at = (b, refl, subst (λ w. Q w b) (same_Some a x at) z.0)
zip_at Q (a ∷ xs) (b ∷ ys) (suc k) x z at = zip_at Q xs ys k x z.1 at

pub zip_length : {A B : Type 0} (Q : A → B → Type 0) (xs : List A) (ys : List B) → AllZip Q xs ys → length xs ≡ length ys
zip_length Q [] [] z = refl
zip_length Q [] (y ∷ ys) z = absurd z
zip_length Q (x ∷ xs) [] z = absurd z
zip_length Q (x ∷ xs) (y ∷ ys) z = ap suc (zip_length Q xs ys z.1)

pub filter_map_few : {A B : Type 0} (h : A → Option B) (xs : List A) → length (filter_map h xs) ≤ length xs
filter_map_few h [] = omega arith
filter_map_few {B = B} h (x ∷ xs) = by_option (h x) (filter_map_few h xs)
  where
    by_option : (o : Option B) → length (filter_map h xs) ≤ length xs → length (cons_option o (filter_map h xs)) ≤ suc (length xs)
    by_option None on = omega (arith, on)
    by_option (Some y) on = omega (arith, on)
