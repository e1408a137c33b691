-- How long accepted certificates are.
use Rattle.std.specs.Prelude.{ℕ, ◌≤◌, List, length}
use Rattle.iges_base.specs.declared.TheConstants.{FILE_LIMIT}
use Rattle.iges_params.specs.Contents.{Contents}
use Rattle.iges_params.specs.IsFile.{IsFile}
use Rattle.brep_walk.specs.SolidOf.{solid_of}
use Rattle.cert_lines.specs.declared.version.Version.{Version}
use Rattle.cert_lines.specs.declared.version.Version.TheVariants.{One}
use Rattle.cert_text.specs.declared.TheConstants.{CERT_LIMIT}
use Rattle.topo_certificate.specs.Upgraded.{upgraded}
use Rattle.cert_accept.specs.Accepted.{IsAcceptedAlone}

-- An accepted certificate of one solid of a file of at most FILE_LIMIT bytes has at most CERT_LIMIT bytes.
abbrev pub AcceptedIsSmall : Type 0
AcceptedIsSmall = (bytes : List ℕ) (f : Contents) (v : Version) (n : ℕ) (certificate : List ℕ)
    → length bytes ≤ FILE_LIMIT → IsFile bytes f → IsAcceptedAlone v f n certificate → length certificate ≤ CERT_LIMIT

-- Nor has it more when it was of version 1 and is upgraded.
abbrev pub UpgradedIsSmall : Type 0
UpgradedIsSmall = (bytes : List ℕ) (f : Contents) (n : ℕ) (certificate : List ℕ)
    → length bytes ≤ FILE_LIMIT → IsFile bytes f → IsAcceptedAlone One f n certificate → length (upgraded (solid_of f n) certificate) ≤ CERT_LIMIT
