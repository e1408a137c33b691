-- What accepted certificates say.
use Rattle.std.specs.Prelude.{◌≡◌, ℕ, ◌⊎◌, List, Contains}
use Rattle.std.specs.List.{AllZip}
use Rattle.cert_lines.specs.Line.{reach, IsSpelled, cut_lines}
use Rattle.cert_lines.specs.declared.version.Version.{Version}
use Rattle.cert_lines.specs.declared.version.Version.TheVariants.{One, Two, Three}
use Rattle.topo_certificate.specs.Upgraded.{upgraded}
use Rattle.iges_params.specs.Contents.{Contents}
use Rattle.brep_walk.specs.SolidOf.{solid_of}
use Rattle.cert_accept.specs.Accepted.{IsAccepted}
use Rattle.iges_params.specs.Limits.{FitsLimits}

-- the version of an upgraded certificate
abbrev pub upgraded_version : Version → Version
upgraded_version One = Two
upgraded_version Two = Two
upgraded_version Three = Three

-- In a file within its limits, what is accepted stays accepted when it is upgraded for a solid that it names, and names the same solids.
abbrev pub UpgradedIsAccepted : Type 0
UpgradedIsAccepted = (f : Contents) (certificate : List ℕ) (v : Version) (ns : List ℕ) (n : ℕ) → FitsLimits f → Contains ns n → IsAccepted f certificate v ns
    → IsAccepted f (upgraded (solid_of f n) certificate) (upgraded_version v) ns

abbrev pub IsReachLine : List ℕ → Type 0
IsReachLine line = (r : ℕ) × IsSpelled line (reach r)

-- The lines are the same, or both are reach lines.
abbrev pub AlikeButReach : List ℕ → List ℕ → Type 0
AlikeButReach a b = (a ≡ b) ⊎ (IsReachLine a × IsReachLine b)

-- Two accepted certificates of one version that name the same solids differ in reach lines alone.
abbrev pub AcceptedDifferInReach : Type 0
AcceptedDifferInReach = (f : Contents) (v : Version) (ns : List ℕ) (a b : List ℕ) → IsAccepted f a v ns → IsAccepted f b v ns
    → AllZip AlikeButReach (cut_lines a) (cut_lines b)
