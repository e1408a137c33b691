-- Of a certificate one answer and one text are owed.
use Rattle.std.proofs.Common.{◌≡◌, ℕ, List, [], ◌∷◌, refl, sym, ap, subst, ◌∙◌, arith}
use Rattle.iges_params.specs.Contents.{Contents}
use Rattle.solid_data.proofs.ObligationLemmas.{FirstFalse-one, FirstFalse-not_all}
use Rattle.brep_walk.specs.SolidOf.{solid_of}
use Rattle.cert_lines.specs.declared.version.Version.{Version}
use Rattle.cert_lines.specs.declared.version.Version.TheVariants.{One, Two, Three}
use Rattle.cert_lines.specs.Opening.{IsHeaded}
use Rattle.cert_lines.proofs.Openings.{one_bad_opening, one_opening, opens_or_bad}
use Rattle.topo_certificate.proofs.LegalLemmas.{legal_has_no_bad_lem, one_first_bad}
use Rattle.cert_accept.specs.Accepted.{checked}
use Rattle.cert_accept.specs.Accepted.{Part, solids_named}
use Rattle.cert_accept.specs.Book.{BookRefusal}
use Rattle.cert_accept.specs.Book as book
use Rattle.cert_accept.proofs.BookReading.{none_bad, one_reading, one_refusal}
use Rattle.command_replies.specs.declared.answer.Answer.TheVariants as answer
use Rattle.command_replies.specs.Texts.{accepted_lines, fail_line, illegal_line, solid_fail_text}
use Rattle.command_replies.specs.Due.{Owed, Exactly, OfText}
use Rattle.certificate_commands.specs.Due.{OfLines, place_fails, line_bad, lines_accepted, OfBook, part_fails, part_bad, parts_accepted, OfVersion}
use Rattle.certificate_commands.specs.Due.{OfCertificate, certificate_too_large, opening_bad, opened, OfVerify, OfUpgrade, upgraded_for}
use Rattle.command_replies.proofs.One.{IsOne, exactly_one, text_one}

pub lines_one : (granted : Owed) → IsOne granted → (v : Version) (n : ℕ) (lines : List (List ℕ)) (f : Contents) → IsOne (OfLines granted v n lines f)
lines_one granted one v n lines f a b t u (place_fails x p) (place_fails y q) = (refl, ap fail_line (FirstFalse-one (checked f n) x y p q))
lines_one granted one v n lines f a b t u (place_fails x p) (line_bad all bad q) = absurd (FirstFalse-not_all (checked f n) x p all)
lines_one granted one v n lines f a b t u (place_fails x p) (lines_accepted all legal due) = absurd (FirstFalse-not_all (checked f n) x p all)
lines_one granted one v n lines f a b t u (line_bad all bad p) (place_fails y q) = absurd (FirstFalse-not_all (checked f n) y q all)
lines_one granted one v n lines f a b t u (line_bad all bad p) (line_bad every worse q) =
    (refl, ap illegal_line (one_first_bad v (solid_of f n) 3 lines bad worse p q))
lines_one granted one v n lines f a b t u (line_bad all bad p) (lines_accepted every legal due) =
    absurd (legal_has_no_bad_lem v (solid_of f n) 3 lines bad legal p)
lines_one granted one v n lines f a b t u (lines_accepted all legal owed) (place_fails y q) = absurd (FirstFalse-not_all (checked f n) y q all)
lines_one granted one v n lines f a b t u (lines_accepted all legal owed) (line_bad every bad q) =
    absurd (legal_has_no_bad_lem v (solid_of f n) 3 lines bad legal q)
lines_one granted one v n lines f a b t u (lines_accepted all legal owed) (lines_accepted every other due) = one a b t u owed due

-- the lines behind the head
pub headed_same : (c : List ℕ) (xs ys : List (List ℕ)) → IsHeaded c Three xs → IsHeaded c Three ys → xs ≡ ys
headed_same c xs ys h k = let same : h.first ∷ xs ≡ k.first ∷ ys = sym h.cut ∙ k.cut in cc

pub refusal_text : BookRefusal → List ℕ
refusal_text (book.fails n x) = solid_fail_text n x
refusal_text (book.illegal bad) = illegal_line bad

module _ (granted : List ℕ → Owed) (one : (ns : List ℕ) → IsOne (granted ns)) where
  pub book_one : (c : List ℕ) (lines : List (List ℕ)) (f : Contents) → IsHeaded c Three lines → IsOne (OfBook granted c lines f)
  unfolding refusal_text
  book_one c lines f h a b t u (part_fails n x p) (part_fails m y q) = (refl, ap refusal_text (one_refusal f c lines (book.fails n x) (book.fails m y) h p q))
  book_one c lines f h a b t u (part_fails n x p) (part_bad bad q) =
      absurd (let same : book.fails n x ≡ book.illegal bad = one_refusal f c lines (book.fails n x) (book.illegal bad) h p q in cc)
  book_one c lines f h a b t u (part_fails n x p) (parts_accepted parts ok due) = absurd (none_bad f c lines parts (book.fails n x) h ok p)
  book_one c lines f h a b t u (part_bad bad p) (part_fails m y q) =
      absurd (let same : book.illegal bad ≡ book.fails m y = one_refusal f c lines (book.illegal bad) (book.fails m y) h p q in cc)
  book_one c lines f h a b t u (part_bad bad p) (part_bad worse q) =
      (refl, ap refusal_text (one_refusal f c lines (book.illegal bad) (book.illegal worse) h p q))
  book_one c lines f h a b t u (part_bad bad p) (parts_accepted parts ok due) = absurd (none_bad f c lines parts (book.illegal bad) h ok p)
  book_one c lines f h a b t u (parts_accepted parts ok owed) (part_fails m y q) = absurd (none_bad f c lines parts (book.fails m y) h ok q)
  book_one c lines f h a b t u (parts_accepted parts ok owed) (part_bad bad q) = absurd (none_bad f c lines parts (book.illegal bad) h ok q)
  book_one c lines f h a b t u (parts_accepted parts ok owed) (parts_accepted others good due) =
      one (solids_named others) a b t u (subst (λ (ps : List Part). granted (solids_named ps) a t) (one_reading f c parts others ok good) owed) due

  pub version_one : (c : List ℕ) (v : Version) (n : ℕ) (lines : List (List ℕ)) (f : Contents) → IsOne (OfVersion granted c v n lines f)
  version_one c One n lines f = lines_one (granted (n ∷ [])) (one (n ∷ [])) One n lines f
  version_one c Two n lines f = lines_one (granted (n ∷ [])) (one (n ∷ [])) Two n lines f
  version_one c Three n lines f = λ a b t u (all, h, owed) (others, k, due).
      book_one c others f k a b t u (subst (λ (xs : List (List ℕ)). OfBook granted c xs f a t) (headed_same c all others h k) owed) due

  pub certificate_one : (certificate : List ℕ) (f : Contents) → IsOne (OfCertificate granted certificate f)
  certificate_one c f a b t u (certificate_too_large many) (certificate_too_large more) = (refl, refl)
  certificate_one c f a b t u (certificate_too_large many) (opening_bad few bad q) = absurd (omega (arith, many, few))
  certificate_one c f a b t u (certificate_too_large many) (opened few v n lines opens due) = absurd (omega (arith, many, few))
  certificate_one c f a b t u (opening_bad few bad p) (certificate_too_large many) = absurd (omega (arith, many, few))
  certificate_one c f a b t u (opening_bad few bad p) (opening_bad fewer worse q) = (refl, ap illegal_line (one_bad_opening c bad worse p q))
  certificate_one c f a b t u (opening_bad few bad p) (opened fewer v n lines opens due) = absurd (opens_or_bad c v n lines bad opens p)
  certificate_one c f a b t u (opened few v n lines opens owed) (certificate_too_large many) = absurd (omega (arith, many, few))
  certificate_one c f a b t u (opened few v n lines opens owed) (opening_bad fewer bad q) = absurd (opens_or_bad c v n lines bad opens q)
  certificate_one c f a b t u (opened few v n lines opens owed) (opened fewer w m others at due) =
      let same = one_opening c v w n m lines others opens at in
      version_one c w m others f a b t u
      (subst (λ (x : Version). OfVersion granted c x m others f a t) same.0
      (subst (λ (k : ℕ). OfVersion granted c v k others f a t) same.1 (subst (λ (xs : List (List ℕ)). OfVersion granted c v n xs f a t) same.2 owed))) due

pub verify_one : (certificate : List ℕ) (f : Contents) → IsOne (OfVerify certificate f)
verify_one certificate f = certificate_one (λ ns. Exactly answer.Done (accepted_lines ns)) (λ ns. exactly_one answer.Done (accepted_lines ns)) certificate f

pub upgrade_one : (certificate : List ℕ) (f : Contents) → IsOne (OfUpgrade certificate f)
upgrade_one certificate f = certificate_one (λ ns. OfText (upgraded_for f certificate ns)) (λ ns. text_one (upgraded_for f certificate ns)) certificate f
