-- What holds of each sample.
use Rattle.std.specs.Prelude.{◌≡◌, ℕ, ◌*◌, ◌≤◌, List, [], ◌∷◌, length, flat_map}
use Rattle.cert_lines.specs.declared.version.Version.TheVariants.{Two}
use Rattle.iges_base.specs.declared.TheConstants.{FILE_LIMIT}
use Rattle.iges_params.specs.Contents.{Contents}
use Rattle.iges_params.specs.IsFile.{IsFile}
use Rattle.iges_params.specs.Made.{IsMade}
use Rattle.iges_write.specs.Text.{IsText}
use Rattle.brep_walk.specs.SolidOf.{solid_of}
use Rattle.solid_data.specs.declared.solid.FaceUse.{FaceUse}
use Rattle.solid_data.specs.declared.solid.Shell.{Shell}
use Rattle.solid_verdict.specs.Closed.{IsClosed}
use Rattle.cert_accept.specs.Accepted.{IsAccepted}
use Rattle.sample_solids.specs.Sample.{sample}

abbrev pub faces_in : List Shell → List FaceUse
faces_in shells = flat_map (λ (h : Shell). h.faces) shells

-- The file can be made, its solid 1 is closed, and that has a face and a vertex for each of the n times n squares, and two edges.
pub record IsClosedMesh (f : Contents) (n : ℕ) : Type 0 where
  pub made : IsMade f
  pub closed : IsClosed f 1
  pub faces : length (faces_in (solid_of f 1).shells) ≡ n * n
  pub edges : length (solid_of f 1).edges ≡ 2 * n * n
  pub vertices : length (solid_of f 1).vertices ≡ n * n

abbrev pub SamplesAreClosed : Type 0
SamplesAreClosed = (n : ℕ) → 3 ≤ n → n ≤ 200 → IsClosedMesh (sample n) n

-- Some certificate of version 2 is accepted for each.
abbrev pub SamplesAreAccepted : Type 0
SamplesAreAccepted = (n : ℕ) → 3 ≤ n → n ≤ 200 → (certificate : List ℕ) × IsAccepted (sample n) certificate Two (1 ∷ [])

-- The canonical text of each has at most so many bytes as a file may have.
abbrev pub SamplesAreWithin : Type 0
SamplesAreWithin = (n : ℕ) → 3 ≤ n → n ≤ 200 → (text : List ℕ) → IsText (sample n) text → length text ≤ FILE_LIMIT

-- And it is read as that sample.
abbrev pub SamplesReadBack : Type 0
SamplesReadBack = (n : ℕ) → 3 ≤ n → n ≤ 200 → (text : List ℕ) → IsText (sample n) text → IsFile text (sample n)

-- And there is one.
abbrev pub SamplesHaveTexts : Type 0
SamplesHaveTexts = (n : ℕ) → 3 ≤ n → n ≤ 200 → (text : List ℕ) × IsText (sample n) text × (length text ≤ FILE_LIMIT)
