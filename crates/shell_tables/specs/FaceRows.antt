-- The rows of each face, linked from the first to the last.
use Rattle.std.specs.Prelude.{◌≡◌, ◌<◌, ◌≤◌, ◌+◌, ℕ, List, length, get_or}
use Rattle.edge_uses.specs.ShellRows.{ShellRows}
use Rattle.edge_uses.specs.RowRelations.{OnFace}

-- the first row of the face from row i on, or the number of rows
pub record IsHead (d : ShellRows) (face i head : ℕ) : Type 0 where
  pub low : i ≤ head
  pub high : head ≤ length d.rows
  pub here : head < length d.rows → OnFace d face head
  pub all : (x : ℕ) → OnFace d face x → i ≤ x → head ≤ x

pub record AreFaceRows (d : ShellRows) (first next : List ℕ) : Type 0 where
  pub faces : length first ≡ d.face_count
  pub rows : length next ≡ length d.rows
  pub heads : (face : ℕ) → face < d.face_count → IsHead d face 0 (get_or first face 0)
  pub nexts : (r face : ℕ) → OnFace d face r → IsHead d face (r + 1) (get_or next r 0)
