-- Of a certificate some answer is owed.
use Rattle.std.proofs.Common.{◌≤◌, ◌⊎◌, length, inl, inr, ℕ, List, [], ◌∷◌, refl}
use Rattle.iges_params.specs.Contents.{Contents}
use Rattle.solid_data.specs.declared.verdict.Failing.{Failing}
use Rattle.solid_data.specs.Obligations.{AllHold, FirstFalse}
use Rattle.solid_data.proofs.Decisions.{Decided, decided_within}
use Rattle.solid_data.proofs.ObligationsDecided.{all_or_first_false}
use Rattle.brep_walk.specs.SolidOf.{solid_of}
use Rattle.cert_lines.specs.Opening.{Opens, IsBadOpening, IsHeaded}
use Rattle.cert_text.specs.declared.fault.Illegal.{Illegal}
use Rattle.cert_lines.specs.declared.version.Version.{Version}
use Rattle.cert_lines.specs.declared.version.Version.TheVariants.{One, Two, Three}
use Rattle.cert_lines.proofs.Decided.{openings_are_decided}
use Rattle.cert_text.specs.declared.TheConstants.{CERT_LIMIT}
use Rattle.topo_certificate.specs.Legal.{IsLegal, IsFirstBad}
use Rattle.topo_certificate.proofs.Decided.{legal_or_first_bad}
use Rattle.cert_accept.specs.Accepted.{checked}
use Rattle.cert_accept.specs.Accepted.{Part, solids_named, IsAcceptedBook}
use Rattle.cert_accept.specs.Book.{BookRefusal, IsBookBad}
use Rattle.cert_accept.specs.Book as book
use Rattle.cert_accept.proofs.BookReading.{accepted_or_bad}
use Rattle.cert_accept.proofs.Decided.{checks_decided}
use Rattle.command_replies.specs.declared.answer.Answer.TheVariants as answer
use Rattle.command_replies.specs.Texts.{accepted_lines, fail_line, illegal_line, solid_fail_text}
use Rattle.command_replies.specs.Due.{Owed, Exactly, OfText}
use Rattle.certificate_commands.specs.Due.{OfLines, place_fails, line_bad, lines_accepted, OfBook, part_fails, part_bad, parts_accepted, OfVersion}
use Rattle.certificate_commands.specs.Due.{OfCertificate, certificate_too_large, opening_bad, opened, OfVerify, OfUpgrade, upgraded_for}
use Rattle.command_replies.proofs.SomeDue.{IsSome, longer, text_due}

pub lines_due : (granted : Owed) → IsSome granted → (v : Version) (n : ℕ) (lines : List (List ℕ)) (f : Contents) → IsSome (OfLines granted v n lines f)
lines_due granted due v n lines f = by_checks (all_or_first_false (checked f n) (checks_decided f n)) (legal_or_first_bad v (solid_of f n) 3 lines)
  where
    by_checks : AllHold (checked f n) ⊎ ((x : Failing) × FirstFalse (checked f n) x)
        → IsLegal v (solid_of f n) lines ⊎ ((bad : Illegal) × IsFirstBad v (solid_of f n) 3 lines bad) → IsSome (OfLines granted v n lines f)
    by_checks (inr (x, bad)) legal = (answer.No, fail_line x, place_fails x bad)
    by_checks (inl all) (inl legal) = (due.0, due.1, lines_accepted all legal due.2)
    by_checks (inl all) (inr (bad, first)) = (answer.No, illegal_line bad, line_bad all bad first)

module _ (granted : List ℕ → Owed) (each : (ns : List ℕ) → IsSome (granted ns)) where
  pub book_due : (c : List ℕ) (lines : List (List ℕ)) (f : Contents) → IsHeaded c Three lines → IsSome (OfBook granted c lines f)
  book_due c lines f headed = by_book (accepted_or_bad f c lines headed)
    where
      by_book : ((parts : List Part) × IsAcceptedBook f c parts) ⊎ ((a : BookRefusal) × IsBookBad f lines a) → IsSome (OfBook granted c lines f)
      by_book (inl (parts, accepted)) = let due = each (solids_named parts) in (due.0, due.1, parts_accepted parts accepted due.2)
      by_book (inr (book.fails n x, bad)) = (answer.No, solid_fail_text n x, part_fails n x bad)
      by_book (inr (book.illegal bad, wrong)) = (answer.No, illegal_line bad, part_bad bad wrong)

  pub version_due : (c : List ℕ) (v : Version) (n : ℕ) (lines : List (List ℕ)) (f : Contents) → Opens c v n lines → IsSome (OfVersion granted c v n lines f)
  version_due c One n lines f opens = lines_due (granted (n ∷ [])) (each (n ∷ [])) One n lines f
  version_due c Two n lines f opens = lines_due (granted (n ∷ [])) (each (n ∷ [])) Two n lines f
  version_due c Three n lines f opens =
      let headed : IsHeaded c Three (opens.second ∷ lines) = record { first = opens.first; cut = opens.cut; is_head = opens.is_head } in
      let due = book_due c (opens.second ∷ lines) f headed in
      (due.0, due.1, (opens.second ∷ lines, headed, due.2))

  pub certificate_due : (certificate : List ℕ) (f : Contents) → IsSome (OfCertificate granted certificate f)
  certificate_due certificate f = by_limit (decided_within (length certificate) CERT_LIMIT) (openings_are_decided certificate)
    where
      by_limit : Decided (length certificate ≤ CERT_LIMIT) → ((v : Version) × (n : ℕ) × (rest : List (List ℕ)) × Opens certificate v n rest)
          ⊎ ((bad : Illegal) × IsBadOpening certificate bad) → IsSome (OfCertificate granted certificate f)
      by_limit (inr more) opening = (answer.TooLarge, [], certificate_too_large (longer (length certificate) CERT_LIMIT more))
      by_limit (inl few) (inr (bad, wrong)) = (answer.No, illegal_line bad, opening_bad few bad wrong)
      by_limit (inl few) (inl (v, n, rest, opens)) = let due = version_due certificate v n rest f opens in (due.0, due.1, opened few v n rest opens due.2)

pub verify_due : (certificate : List ℕ) (f : Contents) → IsSome (OfVerify certificate f)
verify_due certificate f = certificate_due (λ ns. Exactly answer.Done (accepted_lines ns)) (λ ns. (answer.Done, accepted_lines ns, (refl, refl))) certificate f

pub upgrade_due : (certificate : List ℕ) (f : Contents) → IsSome (OfUpgrade certificate f)
upgrade_due certificate f = certificate_due (λ ns. OfText (upgraded_for f certificate ns)) (λ ns. text_due (upgraded_for f certificate ns)) certificate f
