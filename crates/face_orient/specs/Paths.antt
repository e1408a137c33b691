-- Private: two paths up from the faces of a step.
use Rattle.std.specs.Prelude.{◌≡◌, ℕ, Bool, List, [], ◌∷◌, ◌++◌}
use Rattle.orient_certificate.specs.declared.crossing.Crossing.{Crossing}
use Rattle.orient_certificate.specs.Crossings.{Climb}

-- both end with the same row
pub record EndAlike (down up : List ℕ) : Type 0 where
  pub row : ℕ
  pub before_down : List ℕ
  pub before_up : List ℕ
  pub is_down : down ≡ before_down ++ row ∷ []
  pub is_up : up ≡ before_up ++ row ∷ []

-- the paths lead from faces a and b, with these flags, to one face, with one flag
pub record LeadUpTo (cs : List Crossing) (a : ℕ) (p : Bool) (down : List ℕ) (b : ℕ) (q : Bool) (up : List ℕ) : Type 0 where
  pub face : ℕ
  pub flag : Bool
  pub from_a : Climb cs a p down face flag
  pub from_b : Climb cs b q up face flag
