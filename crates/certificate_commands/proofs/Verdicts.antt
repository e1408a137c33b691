-- The answers that are owed of a certificate.
use Rattle.std.proofs.Common.{ℕ, List, [], ◌∷◌}
use Rattle.command_replies.specs.declared.answer.Answer.{Answer}
use Rattle.iges_params.specs.Contents.{Contents}
use Rattle.cert_lines.specs.declared.version.Version.{Version}
use Rattle.cert_lines.specs.declared.version.Version.TheVariants.{One, Two, Three}
use Rattle.cert_accept.specs.Accepted.{solids_named}
use Rattle.command_replies.specs.Due.{Owed}
use Rattle.certificate_commands.specs.Due.{OfLines, place_fails, line_bad, lines_accepted, OfBook, part_fails, part_bad, parts_accepted, OfVersion}
use Rattle.certificate_commands.specs.Due.{OfCertificate, certificate_too_large, opening_bad, opened}
use Rattle.command_replies.proofs.Verdicts.{IsFileVerdict}

pub lines_verdict : (granted : Owed) → ((a : Answer) (t : List ℕ) → granted a t → IsFileVerdict a)
    → (v : Version) (n : ℕ) (lines : List (List ℕ)) (f : Contents) (a : Answer) (t : List ℕ) → OfLines granted v n lines f a t → IsFileVerdict a
lines_verdict granted verdict v n lines f a t (place_fails x first) = tt
lines_verdict granted verdict v n lines f a t (line_bad all bad first) = tt
lines_verdict granted verdict v n lines f a t (lines_accepted all legal owed) = verdict a t owed

module _ (granted : List ℕ → Owed) (verdict : (ns : List ℕ) (a : Answer) (t : List ℕ) → granted ns a t → IsFileVerdict a) where
  pub book_verdict : (c : List ℕ) (lines : List (List ℕ)) (f : Contents) (a : Answer) (t : List ℕ) → OfBook granted c lines f a t → IsFileVerdict a
  book_verdict c lines f a t (part_fails n x first) = tt
  book_verdict c lines f a t (part_bad bad first) = tt
  book_verdict c lines f a t (parts_accepted parts accepted owed) = verdict (solids_named parts) a t owed

  pub version_verdict : (c : List ℕ) (v : Version) (n : ℕ) (lines : List (List ℕ)) (f : Contents) (a : Answer) (t : List ℕ)
      → OfVersion granted c v n lines f a t → IsFileVerdict a
  version_verdict c One n lines f a t owed = lines_verdict (granted (n ∷ [])) (verdict (n ∷ [])) One n lines f a t owed
  version_verdict c Two n lines f a t owed = lines_verdict (granted (n ∷ [])) (verdict (n ∷ [])) Two n lines f a t owed
  version_verdict c Three n lines f a t (all, headed, owed) = book_verdict c all f a t owed

  pub certificate_verdict : (certificate : List ℕ) (f : Contents) (a : Answer) (t : List ℕ) → OfCertificate granted certificate f a t → IsFileVerdict a
  certificate_verdict certificate f a t (certificate_too_large many) = tt
  certificate_verdict certificate f a t (opening_bad few bad wrong) = tt
  certificate_verdict certificate f a t (opened few v n lines opens owed) = version_verdict certificate v n lines f a t owed
