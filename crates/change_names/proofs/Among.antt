-- What stands at a place of a list is in it.
use Rattle.std.specs.Prelude.{◌≡◌, ℕ, List, Contains, Some, slice_get}
use Rattle.std.proofs.lemmas.Option.{slice_get_within, get_or_from_slice_get}

pub is_there : (xs : List ℕ) (i n : ℕ) → slice_get xs i ≡ Some n → Contains xs n
is_there xs i n at = (i, slice_get_within xs i n at, get_or_from_slice_get xs i n n at)
