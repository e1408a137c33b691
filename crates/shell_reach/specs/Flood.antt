-- Private: the faces that are reached so far.
use Rattle.std.specs.Prelude.{◌≡◌, ℕ, suc, Bool, true, false, List, [], ◌∷◌, ◌++◌, length, reverse, map, flat_map, slice_get, get_or}
use Rattle.std.specs.Option.{option_to_list}
use Rattle.edge_uses.specs.ShellRows.{ShellRows}
use Rattle.edge_uses.specs.Around.{IsReached, AreNeighbours}
use Rattle.edge_uses.specs.Mates.{HaveMates}
use Rattle.solid_data.proofs.Members.{Has, NoRepeat}
use Rattle.solid_data.specs.declared.solid.FaceAt.{FaceAt}
use Rattle.shell_reach.specs.Reaching.{ReachFrom, face_of, across, on_new_faces}

abbrev pub face_numbers : List FaceAt → List ℕ
face_numbers faces = map (λ (f : FaceAt). f.0) faces

pub record IsFlood (d : ShellRows) (marks : List Bool) (order rows : List ℕ) : Type 0 where
  pub faces : length marks ≡ d.face_count
  pub listed : (face : ℕ) → get_or marks face false ≡ true → Has order face
  pub marked : (face : ℕ) → Has order face → get_or marks face false ≡ true
  pub first : Has order 0
  pub reached : (face : ℕ) → Has order face → IsReached d face
  pub apart : NoRepeat order
  pub count : length order ≡ suc (length rows)
  pub done : (rest : List ℕ) → ReachFrom d (reverse order) rest → ReachFrom d (0 ∷ []) (rows ++ rest)

-- the neighbours of a face are listed
abbrev pub IsDone : ShellRows → List ℕ → ℕ → Type 0
IsDone d order face = (other : ℕ) → AreNeighbours d face other → Has order other

-- nothing is lost, and what is listed keeps its place
abbrev pub Grows : List ℕ → List ℕ → Type 0
Grows old new = (more : List ℕ) × (new ≡ old ++ more)

-- The rows are those of the crossed ones that lie on new faces, and the faces are listed as these reach them.
pub record HasCrossed (d : ShellRows) (crossed order rows : List ℕ) : Type 0 where
  pub kept : rows ≡ on_new_faces (face_of d) (0 ∷ []) crossed
  pub listed : order ≡ 0 ∷ map (face_of d) rows

-- Whatever was crossed before, these rows are crossed after it.
abbrev pub Crosses : ShellRows → (List ℕ → List ℕ) → List ℕ → List ℕ → List ℕ → List ℕ → Type 0
Crosses d those order rows new_order new_rows = (mates crossed : List ℕ) → HaveMates d mates → HasCrossed d crossed order rows
    → HasCrossed d (crossed ++ those mates) new_order new_rows

-- the mate of one row
abbrev pub mate_at : ℕ → List ℕ → List ℕ
mate_at r mates = get_or mates r 0 ∷ []

-- what is across the rows of the face at a place of the order
abbrev pub across_place : ShellRows → List ℕ → ℕ → List ℕ → List ℕ
across_place d order q mates = flat_map (across d mates) (option_to_list (slice_get order q))

-- what is across the rows of all faces of the order
abbrev pub across_all : ShellRows → List ℕ → List ℕ → List ℕ
across_all d order mates = flat_map (across d mates) order
