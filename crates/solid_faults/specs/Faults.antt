-- All that fails in a shell, rule by rule.
use Rattle.std.specs.Prelude.{◌≡◌, ℕ, List, [], map, ◌++◌, Option, Some, None}
use Rattle.solid_data.specs.SolidData.{SolidData}
use Rattle.solid_data.specs.declared.solid.Shell.{Shell}
use Rattle.solid_data.specs.declared.verdict.Failing.{Failing}
use Rattle.edge_uses.specs.ShellRows.{ShellRows, shell_rows}
use Rattle.solid_faults.specs.declared.edge.Unpaired.{Unpaired}
use Rattle.solid_faults.specs.declared.fan.Unlinked.{Unlinked}
use Rattle.solid_faults.specs.declared.gap.Gap.{Gap}
use Rattle.solid_faults.specs.Gaps.{gaps_of, gap_failing}
use Rattle.solid_faults.specs.Edges.{unpaired_of, unpaired_failing, shared_of, shared_failing}
use Rattle.solid_faults.specs.Parts.{AreParts, faces_apart, failing_faces}
use Rattle.solid_faults.specs.Fans.{AreFans, unlinked_of, unlinked_failing}

-- for each row the least one of its fan, and the vertices that aren't linked
pub record Linking : Type 0 where
  pub leasts : List ℕ
  pub unlinked : List Unlinked

-- The gaps of loops; the edges that aren't paired; for each face the first face of its part; the fans, where they are judged; the vertices that an earlier
-- shell has.
pub record Faults : Type 0 where
  pub gaps : List Gap
  pub unpaired : List Unpaired
  pub firsts : List ℕ
  pub linking : Option Linking
  pub shared : List ℕ

-- Fans are judged where no loop has a gap and no edge is unpaired.
abbrev pub AreLinkings : ShellRows → List Gap → List Unpaired → Option Linking → Type 0
AreLinkings d gaps unpaired None = ¬ ((gaps ≡ []) × (unpaired ≡ []))
AreLinkings d gaps unpaired (Some l) = (gaps ≡ []) × (unpaired ≡ []) × AreFans d l.leasts × (l.unlinked ≡ unlinked_of d l.leasts)

-- x is all that fails in shell k
pub record AreFaults (s : SolidData) (k : ℕ) (shell : Shell) (x : Faults) : Type 0 where
  pub gaps : x.gaps ≡ gaps_of s shell
  pub unpaired : x.unpaired ≡ unpaired_of (shell_rows s shell)
  pub firsts : AreParts (shell_rows s shell) x.firsts
  pub linking : AreLinkings (shell_rows s shell) x.gaps x.unpaired x.linking
  pub shared : x.shared ≡ shared_of s k (shell_rows s shell)

abbrev pub failing_vertices : SolidData → Option Linking → List Failing
failing_vertices s None = []
failing_vertices s (Some l) = map (unlinked_failing s) l.unlinked

-- What these are called, in the order of the rules. The first name is what a verdict names.
abbrev pub failing_of : SolidData → Shell → Faults → List Failing
failing_of s shell x =
    map gap_failing x.gaps ++ map (unpaired_failing s) x.unpaired ++ failing_faces shell.faces x.firsts ++ failing_vertices s x.linking
    ++ map (shared_failing s) x.shared

-- fans are judged, and each vertex is linked
abbrev pub AreLinked : Option Linking → Type 0
AreLinked None = ⊥
AreLinked (Some l) = l.unlinked ≡ []

-- nothing fails: all lists are empty, and there is one part
pub record IsFaultless (x : Faults) : Type 0 where
  pub gaps : x.gaps ≡ []
  pub unpaired : x.unpaired ≡ []
  pub one_part : faces_apart x.firsts ≡ []
  pub linked : AreLinked x.linking
  pub shared : x.shared ≡ []
