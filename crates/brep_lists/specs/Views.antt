-- How the counted records are held.
use Rattle.std.specs.Prelude.{◌≡◌, ℕ, ◌+◌, ◌*◌, ◌^◌, ◌<◌, List, drop, true}
use Rattle.iges_fields.specs.declared.value.Value.{Value}
use Rattle.brep_lists.specs.Record.{count_at}
use Rattle.brep_lists.specs.Groups.{tuples_pass}

-- n items of so many values each are counted in the place, and begin at base
pub record AreCounted (place base size n : ℕ) (vs : List Value) : Type 0 where
  pub counted : n ≡ count_at vs place
  pub small : base + n * size < 2 ^ 64

-- the curves of the tuple that begins at a place, and the place after them
pub record AreEnds (at : ℕ) (vs : List Value) (curves end : ℕ) : Type 0 where
  pub counted : curves ≡ count_at (drop at vs) 4
  pub after : drop end vs ≡ drop (5 + curves * 2) (drop at vs)
  pub small : at + 4 < 2 ^ 64
  pub small_curves : 0 < curves → at + (5 + curves * 2) < 2 ^ 64

-- a tuple begins at a place
pub record IsTuple (at : ℕ) (vs : List Value) (curves : ℕ) : Type 0 where
  pub counted : curves ≡ count_at (drop at vs) 4
  pub small : at + 4 < 2 ^ 64
  pub small_curves : 0 < curves → at + (5 + curves * 2) < 2 ^ 64

-- the tuples of a loop
pub record IsLoop (vs : List Value) (n : ℕ) : Type 0 where
  pub counted : n ≡ count_at vs 0
  pub pass : tuples_pass n (drop 1 vs) ≡ true
