-- What is owed for the bytes of a certificate, of a file.
use Rattle.std.specs.Prelude.{ℕ, ◌<◌, ◌≤◌, List, [], ◌∷◌, length}
use Rattle.iges_params.specs.Contents.{Contents}
use Rattle.solid_data.specs.Obligations.{AllHold, FirstFalse}
use Rattle.solid_data.specs.declared.verdict.Failing.{Failing}
use Rattle.brep_walk.specs.SolidOf.{solid_of}
use Rattle.cert_lines.specs.Opening.{Opens, IsBadOpening, IsHeaded}
use Rattle.cert_text.specs.declared.fault.Illegal.{Illegal}
use Rattle.cert_lines.specs.declared.version.Version.{Version}
use Rattle.cert_lines.specs.declared.version.Version.TheVariants.{One, Two, Three}
use Rattle.cert_text.specs.declared.TheConstants.{CERT_LIMIT}
use Rattle.topo_certificate.specs.Legal.{IsLegal, IsFirstBad}
use Rattle.topo_certificate.specs.Upgraded.{upgraded}
use Rattle.cert_accept.specs.Accepted.{IsAcceptedBook, Part, solids_named}
use Rattle.cert_accept.specs.Book.{IsBookBad}
use Rattle.cert_accept.specs.Book as book
use Rattle.cert_accept.specs.Accepted.{checked}
use Rattle.command_replies.specs.declared.answer.Answer.{Answer}
use Rattle.command_replies.specs.declared.answer.Answer.TheVariants as answer
use Rattle.command_replies.specs.Texts.{accepted_lines, fail_line, illegal_line, solid_fail_text}
use Rattle.command_replies.specs.Due.{Exactly, OfText, Owed}

-- what is owed of a certificate of this version that names solid n and has these lines from line 3 on
pub data OfLines (OfAccepted : Owed) (v : Version) (n : ℕ) (lines : List (List ℕ)) (f : Contents) : Answer → List ℕ → Type 0 where
  -- something that is checked is false: the first that is
  place_fails : (x : Failing) → FirstFalse (checked f n) x → OfLines OfAccepted v n lines f answer.No (fail_line x)
  -- a line is bad: the first that is
  line_bad : AllHold (checked f n) → (bad : Illegal) → IsFirstBad v (solid_of f n) 3 lines bad → OfLines OfAccepted v n lines f answer.No (illegal_line bad)
  -- it is accepted
  lines_accepted : {a : Answer} {t : List ℕ} → AllHold (checked f n) → IsLegal v (solid_of f n) lines → OfAccepted a t → OfLines OfAccepted v n lines f a t

-- what is owed of a book with these lines after its head
pub data OfBook (OfAccepted : List ℕ → Owed) (certificate : List ℕ) (lines : List (List ℕ)) (f : Contents) : Answer → List ℕ → Type 0 where
  -- something is false of a solid that a part names
  part_fails : (n : ℕ) (x : Failing) → IsBookBad f lines (book.fails n x) → OfBook OfAccepted certificate lines f answer.No (solid_fail_text n x)
  -- a line is bad
  part_bad : (bad : Illegal) → IsBookBad f lines (book.illegal bad) → OfBook OfAccepted certificate lines f answer.No (illegal_line bad)
  -- it is accepted: by the solids that its parts name
  parts_accepted : {a : Answer} {t : List ℕ} (parts : List Part) → IsAcceptedBook f certificate parts → OfAccepted (solids_named parts) a t
      → OfBook OfAccepted certificate lines f a t

-- what is owed of a certificate of this version whose line 2 names solid n and has these lines after it: one of version 3 is a book, any other is of solid n
-- alone
abbrev pub OfVersion : (List ℕ → Owed) → List ℕ → Version → ℕ → List (List ℕ) → Contents → Owed
OfVersion OfAccepted certificate One n lines f a t = OfLines (OfAccepted (n ∷ [])) One n lines f a t
OfVersion OfAccepted certificate Two n lines f a t = OfLines (OfAccepted (n ∷ [])) Two n lines f a t
OfVersion OfAccepted certificate Three n lines f a t = (all : List (List ℕ)) × IsHeaded certificate Three all × OfBook OfAccepted certificate all f a t

-- what is owed of a certificate, and of an accepted one by the solids that it names
pub data OfCertificate (OfAccepted : List ℕ → Owed) (certificate : List ℕ) (f : Contents) : Answer → List ℕ → Type 0 where
  -- it is too large
  certificate_too_large : CERT_LIMIT < length certificate → OfCertificate OfAccepted certificate f answer.TooLarge []
  -- line 1 or 2 is bad
  opening_bad : length certificate ≤ CERT_LIMIT → (bad : Illegal) → IsBadOpening certificate bad
      → OfCertificate OfAccepted certificate f answer.No (illegal_line bad)
  -- both are good: by the version
  opened : {a : Answer} {t : List ℕ} → length certificate ≤ CERT_LIMIT → (v : Version) (n : ℕ) (lines : List (List ℕ)) → Opens certificate v n lines
      → OfVersion OfAccepted certificate v n lines f a t
      → OfCertificate OfAccepted certificate f a t

-- what is owed of verifying a certificate: of an accepted one a line for each solid that it names
abbrev pub OfVerify : List ℕ → Contents → Owed
OfVerify certificate f = OfCertificate (λ ns. Exactly answer.Done (accepted_lines ns)) certificate f

-- the certificate upgraded for the first of the solids that it names; a book is given back as it is, whatever the solid
abbrev pub upgraded_for : Contents → List ℕ → List ℕ → List ℕ
upgraded_for f certificate [] = certificate
upgraded_for f certificate (n ∷ ns) = upgraded (solid_of f n) certificate

-- what is owed of upgrading a certificate: of an accepted one its upgraded text
abbrev pub OfUpgrade : List ℕ → Contents → Owed
OfUpgrade certificate f = OfCertificate (λ ns. OfText (upgraded_for f certificate ns)) certificate f
