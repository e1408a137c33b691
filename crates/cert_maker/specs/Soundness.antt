-- What accepted certificates say of closed solids.
use Rattle.std.specs.Prelude.{ℕ, List, ◌↔◌, Contains}
use Rattle.std.specs.List.{AllByRecursion}
use Rattle.iges_params.specs.Contents.{Contents}
use Rattle.iges_params.specs.Limits.{FitsLimits}
use Rattle.cert_lines.specs.declared.version.Version.{Version}
use Rattle.solid_verdict.specs.Closed.{IsClosed}
use Rattle.cert_accept.specs.Accepted.{IsAccepted}

-- Each solid that an accepted certificate names is closed.
abbrev pub AcceptedIsClosed : Type 0
AcceptedIsClosed = (f : Contents) (certificate : List ℕ) (v : Version) (ns : List ℕ) → IsAccepted f certificate v ns → AllByRecursion (IsClosed f) ns

-- In a file within its limits, a solid is closed exactly where some certificate that names it is accepted.
abbrev pub ClosedExactlyWhereAccepted : Type 0
ClosedExactlyWhereAccepted = (f : Contents) (n : ℕ) → FitsLimits f
    → IsClosed f n ↔ ((certificate : List ℕ) × (v : Version) × (ns : List ℕ) × IsAccepted f certificate v ns × Contains ns n)
