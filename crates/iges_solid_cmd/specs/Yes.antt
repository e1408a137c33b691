-- When verifying answers yes, and that what is written is accepted.
use Rattle.std.specs.Prelude.{◌≡◌, ◌↔◌, ◌≤◌, ℕ, List, length}
use Rattle.std.specs.List.{AllByRecursion}
use Rattle.iges_base.specs.declared.TheConstants.{FILE_LIMIT}
use Rattle.iges_params.specs.Contents.{Contents}
use Rattle.iges_params.specs.IsFile.{IsFile}
use Rattle.cert_text.specs.declared.TheConstants.{CERT_LIMIT}
use Rattle.cert_lines.specs.declared.version.Version.{Version}
use Rattle.cert_accept.specs.Accepted.{IsAccepted}
use Rattle.solid_verdict.specs.Closed.{IsClosed}
use Rattle.cert_accept.specs.Laws.{upgraded_version}
use Rattle.iges_params.specs.Solids.{solids_of}
use Rattle.command_replies.specs.declared.answer.Answer.TheVariants as answer
use Rattle.command_replies.specs.Texts.{accepted_line, accepted_lines}
use Rattle.iges_params.specs.Limits.{FitsLimits}
use Rattle.certificate_commands.specs.Due.{OfUpgrade, OfVerify, upgraded_for}
use Rattle.iges_solid_cmd.specs.Due.{OfCertify, OfCertifyAll}

-- Of a certificate that isn't too large, of any version, yes is owed exactly where it is accepted; the lines name its solids.
abbrev pub YesIsAccepted : Type 0
YesIsAccepted =
    (f : Contents) (certificate text : List ℕ) → length certificate ≤ CERT_LIMIT
    → OfVerify certificate f answer.Done text ↔ ((v : Version) × (ns : List ℕ) × IsAccepted f certificate v ns × (text ≡ accepted_lines ns))

-- Where yes is owed, each solid that a line names is closed.
abbrev pub YesIsClosed : Type 0
YesIsClosed = (f : Contents) (certificate text : List ℕ) → OfVerify certificate f answer.Done text → (ns : List ℕ) × AllByRecursion (IsClosed f) ns
    × (text ≡ accepted_lines ns)

-- What certifying writes of a file that isn't too large, verifying accepts.
abbrev pub CertifiedIsVerified : Type 0
CertifiedIsVerified =
    (n : ℕ) (bytes : List ℕ) (f : Contents) (text : List ℕ) → length bytes ≤ FILE_LIMIT → IsFile bytes f → OfCertify n f answer.Done text
    → OfVerify text f answer.Done (accepted_line n)

-- And so it does what certifying all solids writes, where it isn't too large, and names them all.
abbrev pub BookIsVerified : Type 0
BookIsVerified = (f : Contents) (text : List ℕ) → length text ≤ CERT_LIMIT → OfCertifyAll f answer.Done text
    → OfVerify text f answer.Done (accepted_lines (solids_of f))

-- What upgrading writes is the upgraded text of an accepted certificate, for a solid that this names, and is accepted too and names the same solids; the file
-- is within its limits.
abbrev pub UpgradedIsVerified : Type 0
UpgradedIsVerified =
    (f : Contents) (certificate text : List ℕ) → FitsLimits f → OfUpgrade certificate f answer.Done text
    → (v : Version) × (ns : List ℕ) × IsAccepted f certificate v ns × (text ≡ upgraded_for f certificate ns) × IsAccepted f text (upgraded_version v) ns
