-- Tables by which the parts of a shell are described.
use Rattle.std.specs.Prelude.{◌≡◌, ◌==◌, ◌<◌, ◌^◌, nat_lt, ℕ, Bool, List, [], ◌∷◌, length, map, flat_map, slice_get, All, if◌then◌else◌}
use Rattle.std.specs.Option.{option_to_list}
use Rattle.std.specs.List.{list_any}
use Rattle.solid_data.specs.SolidData.{SolidData}
use Rattle.solid_data.specs.declared.solid.FaceUse.{FaceUse}
use Rattle.solid_data.specs.declared.solid.Shell.{Shell}
use Rattle.solid_data.specs.Cells.{Celled, cell_of}
use Rattle.solid_data.specs.Ranges.{IsWithin, IsSpanOf}
use Rattle.edge_uses.specs.Before.{face_vertices, faces_vertices}
use Rattle.edge_uses.specs.Building.{HasKnownParts}
use Rattle.shell_facts.specs.PartFacts.{faces_before}
use Rattle.solid_faults.specs.declared.edge.Unpaired.{Unpaired}

-- whether a part before p is marked at the vertex
abbrev pub is_low : Celled ℕ → ℕ → ℕ → Bool
is_low lows p v = nat_lt (cell_of lows v) p

abbrev pub low_vertex : Celled ℕ → ℕ → ℕ → List ℕ
low_vertex lows p v = if is_low lows p v then v ∷ [] else []

-- each vertex of the range is marked by the least part that has it
abbrev pub IsLowest : SolidData → Shell → List ℕ → Celled ℕ → Type 0
IsLowest s shell firsts lows = (v p : ℕ) → IsWithin lows.span v → p < 2 ^ 32
    → is_low lows p v ≡ list_any (λ m. m == v) (flat_map (face_vertices s) (faces_before shell firsts p))

-- marks for each of a range of vertices
pub record AreMarks (lows : Celled ℕ) : Type 0 where
  pub span : IsSpanOf lows.span lows.numbers
  pub each : length lows.cells ≡ lows.span.count

-- the same vertices have marks
pub record AreKept (old new : Celled ℕ) : Type 0 where
  pub numbers : new.numbers ≡ old.numbers
  pub span : new.span ≡ old.span
  pub each : length new.cells ≡ length old.cells

-- the faces of a shell that numbers name
abbrev pub face_numbered : Shell → ℕ → List FaceUse
face_numbered shell n = option_to_list (slice_get shell.faces n)

abbrev pub faces_numbered : Shell → List ℕ → List FaceUse
faces_numbered shell ns = flat_map (face_numbered shell) ns

-- a shell of a solid, for each face the first face of its part, and the edges that aren't paired
pub record ShellParts : Type 0 where
  pub solid : SolidData
  pub shell : Shell
  pub firsts : List ℕ
  pub unpaired : List Unpaired

pub record ArePartTables (s : SolidData) (shell : Shell) (firsts : List ℕ) (us : List Unpaired) (by_part by_edge : List ℕ) (marks : Celled ℕ) : Type 0 where
  pub parts : by_part ≡ firsts
  pub edges : by_edge ≡ map (λ (u : Unpaired). u.edge.0) us
  pub lows : IsLowest s shell firsts marks
  pub each : length firsts ≡ length shell.faces
  pub within : All (IsWithin marks.span) (faces_vertices s shell)
  pub known : HasKnownParts s shell
