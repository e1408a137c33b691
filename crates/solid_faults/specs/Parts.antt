-- The parts of a shell: all faces that chains of shared edges join, whether paired or not.
use Rattle.std.specs.Prelude.{◌≡◌, ◌≤◌, ◌+◌, ℕ, zero, suc, List, [], ◌∷◌, length, Some, slice_get}
use Rattle.solid_data.specs.Chain.{LeadsTo}
use Rattle.solid_data.specs.declared.solid.FaceUse.{FaceUse}
use Rattle.solid_data.specs.declared.verdict.Failing.{Failing}
use Rattle.solid_data.specs.declared.verdict.Rule.TheVariants.{Unreached}
use Rattle.edge_uses.specs.declared.row.Row.{Row}
use Rattle.edge_uses.specs.ShellRows.{ShellRows}

-- a row of face a and a row of face b have one edge
pub record ShareEdge (d : ShellRows) (a b : ℕ) : Type 0 where
  pub r : ℕ
  pub q : ℕ
  pub row : Row
  pub other : Row
  pub at_r : slice_get d.rows r ≡ Some row
  pub at_q : slice_get d.rows q ≡ Some other
  pub one_edge : row.edge ≡ other.edge
  pub on_a : row.at.face.0 ≡ a
  pub on_b : other.at.face.0 ≡ b

-- a chain of faces that share edges leads from one to the other
abbrev pub AreConnected : ShellRows → ℕ → ℕ → Type 0
AreConnected d a b = LeadsTo (ShareEdge d) a b

-- for each face the first face of its part
pub record AreParts (d : ShellRows) (firsts : List ℕ) : Type 0 where
  pub each : length firsts ≡ d.face_count
  pub connected : (f p : ℕ) → slice_get firsts f ≡ Some p → AreConnected d f p
  pub least : (f p g : ℕ) → slice_get firsts f ≡ Some p → AreConnected d f g → p ≤ g

-- the faces, numbered from i on, whose part isn't the first one
abbrev pub apart_from : ℕ → List ℕ → List ℕ
apart_from i [] = []
apart_from i (zero ∷ ps) = apart_from (i + 1) ps
apart_from i (suc p ∷ ps) = i ∷ apart_from (i + 1) ps

abbrev pub faces_apart : List ℕ → List ℕ
faces_apart firsts = apart_from 0 firsts

-- the obligations of these faces
abbrev pub failing_faces : List FaceUse → List ℕ → List Failing
failing_faces [] ps = []
failing_faces (f ∷ fs) [] = []
failing_faces (f ∷ fs) (zero ∷ ps) = failing_faces fs ps
failing_faces (f ∷ fs) (suc p ∷ ps) = record { rule = Unreached; entity = f.entity; place = 0 } ∷ failing_faces fs ps
