-- What is said of each part of a shell. A part is named by its first face.
use Rattle.std.specs.Prelude.{◌≡◌, ◌==◌, nat_lt, ℕ, Bool, List, [], ◌∷◌, length, map, flat_map, if◌then◌else◌}
use Rattle.std.specs.List.{enumerate_from}
use Rattle.solid_data.specs.Ring.{numbers_from}
use Rattle.solid_data.specs.SolidData.{SolidData, occurring}
use Rattle.solid_data.specs.declared.solid.FaceUse.{FaceUse}
use Rattle.solid_data.specs.declared.solid.Shell.{Shell}
use Rattle.edge_uses.specs.Before.{face_vertices}
use Rattle.shell_components.specs.FaceUses.{face_edges}
use Rattle.solid_faults.specs.declared.edge.Unpaired.{Unpaired}
use Rattle.shell_facts.specs.declared.parting.Part.{Part}

abbrev pub first_if : ℕ × ℕ → List ℕ
first_if f = if f.0 == f.1 then f.0 ∷ [] else []

-- the parts: the faces that are the first of their part
abbrev pub parts_of : List ℕ → List ℕ
parts_of firsts = flat_map first_if (enumerate_from 0 firsts)

-- the faces whose part is wanted, as listed
abbrev pub faces_where : (ℕ → Bool) → List FaceUse → List ℕ → List FaceUse
faces_where wanted [] ps = []
faces_where wanted (f ∷ fs) [] = []
faces_where wanted (f ∷ fs) (p ∷ ps) = if wanted p then f ∷ faces_where wanted fs ps else faces_where wanted fs ps

-- the faces of a part, and those of the parts before it
abbrev pub part_faces : Shell → List ℕ → ℕ → List FaceUse
part_faces shell firsts p = faces_where (λ q. q == p) shell.faces firsts

abbrev pub faces_before : Shell → List ℕ → ℕ → List FaceUse
faces_before shell firsts p = faces_where (λ q. nat_lt q p) shell.faces firsts

-- the edges and the vertices that occur in a part, by rising number
abbrev pub part_edges : SolidData → Shell → List ℕ → ℕ → List ℕ
part_edges s shell firsts p = occurring (numbers_from 0 (length s.edges)) (flat_map face_edges (part_faces shell firsts p))

abbrev pub part_vertices : SolidData → Shell → List ℕ → ℕ → List ℕ
part_vertices s shell firsts p = occurring (numbers_from 0 (length s.vertices)) (flat_map (face_vertices s) (part_faces shell firsts p))

-- those of its edges that aren't paired
abbrev pub part_unpaired : SolidData → Shell → List ℕ → List Unpaired → ℕ → List ℕ
part_unpaired s shell firsts unpaired p = occurring (part_edges s shell firsts p) (map (λ (u : Unpaired). u.edge.0) unpaired)

-- those of its vertices that occur in a part before
abbrev pub part_touching : SolidData → Shell → List ℕ → ℕ → List ℕ
part_touching s shell firsts p = occurring (part_vertices s shell firsts p) (flat_map (face_vertices s) (faces_before shell firsts p))

-- what is said of a part
pub record IsPart (s : SolidData) (shell : Shell) (firsts : List ℕ) (us : List Unpaired) (p : ℕ) (part : Part) : Type 0 where
  pub faces : part.faces.items ≡ map (λ (f : FaceUse). f.entity) (part_faces shell firsts p)
  pub edges : part.edges ≡ length (part_edges s shell firsts p)
  pub vertices : part.vertices.items ≡ part_vertices s shell firsts p
  pub unpaired : part.unpaired ≡ length (part_unpaired s shell firsts us p)
  pub touching : part.touching.items ≡ part_touching s shell firsts p
