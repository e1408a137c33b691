-- An accepted certificate of a file within its limit is within the limit of certificates.
use Rattle.std.specs.Prelude.{◌≡◌, ℕ, ◌≤◌, List, [], ◌∷◌, length}
use Rattle.std.proofs.Common.{refl, sym, ap, ◌∙◌, arith}
use Rattle.iges_base.specs.declared.TheConstants.{FILE_LIMIT}
use Rattle.iges_params.specs.Contents.{Contents}
use Rattle.iges_params.specs.IsFile.{IsFile}
use Rattle.solid_data.specs.Obligations.{AllHold}
use Rattle.solid_data.specs.SolidData.{SolidData}
use Rattle.brep_walk.specs.Places.{places}
use Rattle.brep_walk.specs.SolidOf.{solid_of}
use Rattle.cert_lines.specs.Opening.{Opens}
use Rattle.cert_lines.specs.declared.version.Version.{Version}
use Rattle.cert_lines.specs.declared.version.Version.TheVariants.{One, Two}
use Rattle.topo_certificate.specs.Legal.{IsLegal}
use Rattle.topo_certificate.specs.Upgraded.{upgraded}
use Rattle.cert_accept.proofs.UpgradedLaw.{upgraded_is_accepted}
use Rattle.cert_accept.specs.Small.{AcceptedIsSmall, UpgradedIsSmall}
use Rattle.cert_accept.proofs.Bytes.{entries_room, file_fits}
use Rattle.cert_accept.proofs.Lines.{lines_long, legal_long, shells_few, cut_long}
use Rattle.cert_accept.proofs.Uses.{uses_within, shells_fewer}

-- Beside 132 bytes the certificate has 23 at most for a use, which takes 8 of the file, and 114 at most for a face and its shell, which take 160.
pub legal_is_small : (bytes : List ℕ) (f : Contents) (v : Version) (n : ℕ) (certificate : List ℕ) (rest : List (List ℕ)) → length bytes ≤ FILE_LIMIT
    → IsFile bytes f
    → AllHold (places f n) → Opens certificate v n rest → IsLegal v (solid_of f n) rest → length certificate ≤ 536870912
legal_is_small bytes f v n certificate rest limit file placed opens legal =
    let s : SolidData = solid_of f n in
    let cut : lines_long (opens.first ∷ opens.second ∷ rest) ≡ length certificate = ap lines_long (sym opens.cut) ∙ cut_long certificate in
    omega (
      arith,
      cut,
      opens.is_head.0,
      opens.names.0,
      legal_long v s rest legal,
      shells_few s s.shells,
      shells_fewer f n placed,
      uses_within f n placed,
      entries_room bytes f limit file,
    )

pub accepted_is_small : AcceptedIsSmall
accepted_is_small bytes f v n certificate limit file h = legal_is_small bytes f v n certificate h.rest limit file h.certified.placed h.opens h.certified.legal

-- The upgraded certificate is accepted too.
pub upgraded_is_small : UpgradedIsSmall
upgraded_is_small bytes f n certificate limit file h =
    let kept = upgraded_is_accepted f certificate One (n ∷ []) n (file_fits bytes f limit file) (0, omega arith, refl) (n, refl, h) in
    accepted_is_small bytes f Two kept.0 (upgraded (solid_of f n) certificate) limit file kept.2
