-- Private: the steps from each face, linked from the first to the last.
use Rattle.std.specs.Prelude.{◌≡◌, ◌<◌, ◌≤◌, ◌+◌, ℕ, List, length, slice_get, Some, get_or}
use Rattle.orient_certificate.specs.declared.crossing.Crossing.{Crossing}

-- step r leads from the face
abbrev pub Leaves : List Crossing → ℕ → ℕ → Type 0
Leaves cs face r = (c : Crossing) × (slice_get cs r ≡ Some c) × (c.from ≡ face)

-- the first step from the face, from step i on, or the number of steps
pub record IsHead (cs : List Crossing) (face i head : ℕ) : Type 0 where
  pub low : i ≤ head
  pub here : head < length cs → Leaves cs face head
  pub all : (x : ℕ) → Leaves cs face x → i ≤ x → head ≤ x

pub record AreHeads (n : ℕ) (cs : List Crossing) (first next : List ℕ) : Type 0 where
  pub faces : length first ≡ n
  pub steps : length next ≡ length cs
  pub heads : (face : ℕ) → face < n → IsHead cs face 0 (get_or first face 0)
  pub nexts : (r face : ℕ) → Leaves cs face r → IsHead cs face (r + 1) (get_or next r 0)
