-- Lists that are compared item by item.
use Rattle.std.specs.Prelude.{◌≡◌, ℕ, List, length, Some, slice_get}

-- R holds of each item with its place
pub record EachAt {A : Type 0} (R : ℕ → A → Type 0) (xs : List A) : Type 0 where
  pub at : (i : ℕ) (x : A) → slice_get xs i ≡ Some x → R i x

-- The lists are of one length, and R holds of the i-th item of one with the i-th of the other.
pub record Matched {A B : Type 0} (R : A → B → Type 0) (xs : List A) (ys : List B) : Type 0 where
  pub one_length : length xs ≡ length ys
  pub each : EachAt (λ i y. (x : A) → slice_get xs i ≡ Some x → R x y) ys
