-- Private: the faces that are reached so far, with the flag that each must have.
use Rattle.std.specs.Prelude.{◌≡◌, ◌<◌, ◌+◌, ◌⊎◌, ℕ, Bool, true, false, List, ◌++◌, length, slice_get, Some, get_or}
use Rattle.solid_data.proofs.Members.{Has, NoRepeat}
use Rattle.orient_certificate.specs.declared.crossing.Crossing.{Crossing}
use Rattle.face_orient.specs.declared.flag_walk.WalkedFace.{WalkedFace}
use Rattle.orient_certificate.specs.Crossings.{flipped, Meets}

abbrev pub unreached : WalkedFace
unreached = record { reached = false; flag = false; depth = 0; up = 0 }

abbrev pub walked_of : List WalkedFace → ℕ → WalkedFace
walked_of places face = get_or places face unreached

-- The face was reached by a step from one that is reached, one step less deep.
pub record IsChild (cs : List Crossing) (places : List WalkedFace) (face : ℕ) : Type 0 where
  pub step : Crossing
  pub at : slice_get cs (walked_of places face).up ≡ Some step
  pub to : step.to ≡ face
  pub parent : (walked_of places step.from).reached ≡ true
  pub deeper : (walked_of places face).depth ≡ (walked_of places step.from).depth + 1
  pub flag : (walked_of places face).flag ≡ flipped step.flips (walked_of places step.from).flag

-- the first face, at no depth, with its own flag
pub record IsOrigin (first : Bool) (places : List WalkedFace) (face : ℕ) : Type 0 where
  pub is_first : face ≡ 0
  pub depth : (walked_of places face).depth ≡ 0
  pub flag : (walked_of places face).flag ≡ first

pub record IsFlagWalk (n : ℕ) (cs : List Crossing) (first : Bool) (places : List WalkedFace) (order : List ℕ) : Type 0 where
  pub size : length places ≡ n
  pub listed : (face : ℕ) → (walked_of places face).reached ≡ true → Has order face
  pub marked : (face : ℕ) → Has order face → (walked_of places face).reached ≡ true
  pub begun : Has order 0
  pub origin : IsOrigin first places 0
  pub known : (face : ℕ) → Has order face → IsOrigin first places face ⊎ IsChild cs places face
  pub shallow : (face : ℕ) → Has order face → (walked_of places face).depth < length order
  pub apart : NoRepeat order

-- the faces that its steps lead to are listed
abbrev pub IsDone : List Crossing → List ℕ → ℕ → Type 0
IsDone cs order face = (other : ℕ) → Meets cs face other → Has order other

-- nothing is lost, and what is listed keeps its place
abbrev pub Grows : List ℕ → List ℕ → Type 0
Grows old new = (more : List ℕ) × (new ≡ old ++ more)
