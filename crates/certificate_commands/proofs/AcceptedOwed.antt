-- Done is owed of a certificate exactly where it is accepted.
use Rattle.std.proofs.Common.{◌≤◌, ℕ, List, [], ◌∷◌, ◌++◌, flat_map, length, refl, subst, arith}
use Rattle.iges_params.specs.Contents.{Contents}
use Rattle.cert_lines.specs.Opening.{Opens}
use Rattle.cert_lines.specs.declared.version.Version.{Version}
use Rattle.cert_lines.specs.declared.version.Version.TheVariants.{One, Two, Three}
use Rattle.cert_accept.specs.Accepted.{IsAccepted, IsAcceptedAlone, IsAcceptedBook, Part, part_lines, solids_named}
use Rattle.cert_accept.proofs.CheckedParts.{accepted_is_checked}
use Rattle.cert_lines.specs.Line.{end, spelling}
use Rattle.cert_accept.proofs.PartOutcomes.{solid_short}
use Rattle.command_replies.specs.declared.answer.Answer.TheVariants.{Done}
use Rattle.cert_text.specs.declared.TheConstants.{CERT_LIMIT}
use Rattle.command_replies.specs.Due.{Owed}
use Rattle.certificate_commands.specs.Due.{OfBook, parts_accepted, OfLines, lines_accepted, OfCertificate, opened, OfVersion}

-- what is owed as done is owed of a certificate that is accepted, by the solids that it names
abbrev pub Then : (List ℕ → Owed) → Contents → List ℕ → List ℕ → Type 0
Then granted f c text = (v : Version) × (ns : List ℕ) × IsAccepted f c v ns × granted ns Done text

-- a book opens with its head and the line of its first solid
pub book_opens : (f : Contents) (c : List ℕ) (parts : List Part) → IsAcceptedBook f c parts → (n : ℕ) × (rest : List (List ℕ)) × Opens c Three n rest
book_opens f c [] h = absurd (let some = h.some in omega (arith, some))
book_opens f c (p ∷ ps) h =
    let names = h.good.0.names in (
      p.solid,
      (p.further ++ flat_map part_lines ps) ++ spelling end
          ∷ [],
      record {
        first = h.headed.first;
        second = p.first;
        cut = h.headed.cut;
        is_head = h.headed.is_head;
        names =
            (solid_short p.first p.solid names, names);
      },
    )

module _ (granted : List ℕ → Owed) (f : Contents) (c text : List ℕ) where
  pub lines_done : (v : Version) (n : ℕ) (lines : List (List ℕ)) → Opens c v n lines → OfLines (granted (n ∷ [])) v n lines f Done text
      → IsAcceptedAlone v f n c × granted (n ∷ []) Done text
  lines_done v n lines opens (lines_accepted hold legal owed) = ((accepted_is_checked v f n c).1 (lines, opens, hold, legal), owed)

  pub book_done : (lines : List (List ℕ)) → OfBook granted c lines f Done text → Then granted f c text
  book_done lines (parts_accepted parts accepted owed) = (Three, solids_named parts, (parts, refl, accepted), owed)

  pub version_then : (v : Version) (n : ℕ) (lines : List (List ℕ)) → Opens c v n lines → OfVersion granted c v n lines f Done text → Then granted f c text
  version_then One n lines opens owed = let done = lines_done One n lines opens owed in (One, n ∷ [], (n, refl, done.0), done.1)
  version_then Two n lines opens owed = let done = lines_done Two n lines opens owed in (Two, n ∷ [], (n, refl, done.0), done.1)
  version_then Three n lines opens (all, headed, owed) = book_done all owed

  pub accepted_then : OfCertificate granted c f Done text → Then granted f c text
  accepted_then (opened few v n lines opens owed) = version_then v n lines opens owed

  pub accepted_owed : (v : Version) (ns : List ℕ) → length c ≤ CERT_LIMIT → IsAccepted f c v ns → granted ns Done text → OfCertificate granted c f Done text
  accepted_owed One ns few (n, same, alone) owed =
      let made = (accepted_is_checked One f n c).0 alone in
      opened few One n made.0 made.1 (lines_accepted made.2 made.3 (subst (λ (ms : List ℕ). granted ms Done text) same owed))
  accepted_owed Two ns few (n, same, alone) owed =
      let made = (accepted_is_checked Two f n c).0 alone in
      opened few Two n made.0 made.1 (lines_accepted made.2 made.3 (subst (λ (ms : List ℕ). granted ms Done text) same owed))
  accepted_owed Three ns few (parts, same, book) owed =
      let opens = book_opens f c parts book in
      opened few Three opens.0 opens.1 opens.2
      (flat_map part_lines parts ++ spelling end ∷ [], book.headed, parts_accepted parts book (subst (λ (ms : List ℕ). granted ms Done text) same owed))
