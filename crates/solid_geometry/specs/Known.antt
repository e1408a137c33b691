-- What is known of the geometry of a solid, by numbers.
use Rattle.std.specs.Prelude.{◌≡◌, ◌↔◌, ℕ, ℤ, List, length, map, Some, IsSome, IsTrue, slice_get}
use Rattle.iges_params.specs.Contents.{Contents}
use Rattle.record_numbers.specs.EqualRecords.{AreFair}
use Rattle.shell_change.specs.declared.geometry.CurveKnown.{CurveKnown}
use Rattle.shell_change.specs.declared.geometry.Geometry.{Geometry}
use Rattle.solid_data.specs.SolidData.{SolidData}
use Rattle.vertex_places.specs.Places.{ArePlaces}
use Rattle.solid_geometry.specs.Curves.{curves_of, is_line, HaveSamePoints}

abbrev pub records_of : List CurveKnown → List ℕ
records_of curves = map (λ (c : CurveKnown). c.record) curves

-- What is known of these entries as curves: the numbers of two are equal exactly if their records are; a line without a
-- matrix has a number as a line, and no other curve has; those of two are equal exactly if they have the same two points.
pub record AreCurvesOf (f : Contents) (entries : List ℤ) (curves : List CurveKnown) : Type 0 where
  pub records : AreFair f entries (records_of curves)
  pub lines : (i : ℕ) (z : ℤ) (c : CurveKnown) → slice_get entries i ≡ Some z → slice_get curves i ≡ Some c → IsSome c.line ↔ IsTrue (is_line f z)
  pub same_lines : (i j : ℕ) (y z : ℤ) (b c : CurveKnown) (m n : ℕ) → slice_get entries i ≡ Some y → slice_get entries j ≡ Some z
      → slice_get curves i ≡ Some b → slice_get curves j ≡ Some c → b.line ≡ Some m → c.line ≡ Some n
      → (m ≡ n) ↔ HaveSamePoints f y z

-- The numbers of two places are equal exactly if the places are.
pub record IsGeometryOf (f : Contents) (s : SolidData) (g : Geometry) : Type 0 where
  pub each_place : length g.places ≡ length s.vertices
  pub places : ArePlaces f s.vertices g.places
  pub curves : AreCurvesOf f (curves_of f s.edges) g.curves
