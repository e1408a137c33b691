-- What is owed of a certificate of one solid, by what is checked of this and what the checker answers.
use Rattle.std.proofs.Common.{◌≡◌, ◌≤◌, ℕ, List, [], ◌∷◌, length, subst}
use Rattle.solid_data.specs.Obligations.{AllHold, FirstFalse}
use Rattle.solid_data.specs.SolidData.{SolidData}
use Rattle.solid_data.specs.declared.verdict.Failing.{Failing}
use Rattle.brep_walk.specs.SolidOf.{solid_of}
use Rattle.iges_params.specs.Contents.{Contents}
use Rattle.cert_lines.specs.Opening.{Opens}
use Rattle.cert_text.specs.declared.fault.Illegal.{Illegal}
use Rattle.cert_lines.specs.declared.version.Version.{Version}
use Rattle.cert_lines.specs.declared.version.Version.TheVariants.{One, Two, Three}
use Rattle.cert_text.specs.declared.TheConstants.{CERT_LIMIT}
use Rattle.topo_certificate.specs.Legal.{IsLegal, IsFirstBad}
use Rattle.topo_certificate.specs.Upgraded.{upgraded}
use Rattle.cert_accept.specs.Accepted.{checked}
use Rattle.command_replies.specs.declared.answer.Answer.{Answer}
use Rattle.command_replies.specs.declared.answer.Answer.TheVariants.{No}
use Rattle.command_replies.specs.declared.reply.Reply.{Reply}
use Rattle.command_replies.specs.Texts.{fail_line, illegal_line}
use Rattle.command_replies.specs.Due.{Owed, OfText}
use Rattle.command_replies.proofs.Owing.{owed_so}
use Rattle.certificate_commands.specs.Due.{OfCertificate, opened, OfLines, place_fails, line_bad, lines_accepted, OfUpgrade, OfVersion, upgraded_for}
use Rattle.certificate_commands.specs.Judging.{IsChecked, IsOfOne, TellsFalse}

-- what is owed of the lines is owed of the version
pub by_lines : (OfAccepted : List ℕ → Owed) (c : List ℕ) (v : Version) (n : ℕ) (lines : List (List ℕ)) (f : Contents) (a : Answer) (t : List ℕ) → IsOfOne v
    → OfLines (OfAccepted (n ∷ [])) v n lines f a t → OfVersion OfAccepted c v n lines f a t
by_lines OfAccepted c One n lines f a t one owed = owed
by_lines OfAccepted c Two n lines f a t one owed = owed
by_lines OfAccepted c Three n lines f a t one owed = absurd one

module _ (OfAccepted : List ℕ → Owed) (f : Contents) (c : List ℕ) (v : Version) (n : ℕ) (lines : List (List ℕ)) (a : Answer) (t : List ℕ)
    (few : length c ≤ CERT_LIMIT) (opens : Opens c v n lines) (one : IsOfOne v) where
  -- what is checked of the solid fails
  pub false_owed : (x : Failing) → FirstFalse (checked f n) x → (a ≡ No) × (t ≡ fail_line x) → OfCertificate OfAccepted c f a t
  false_owed x first exact =
      owed_so (OfCertificate OfAccepted c f) _ _ _ _ (opened few v n lines opens (by_lines OfAccepted c v n lines f _ _ one (place_fails x first))) exact.0
      exact.1

  -- the lines are legal for the solid
  pub legal_owed : AllHold (checked f n) → IsLegal v (solid_of f n) lines → OfAccepted (n ∷ []) a t → OfCertificate OfAccepted c f a t
  legal_owed holds legal owed = opened few v n lines opens (by_lines OfAccepted c v n lines f a t one (lines_accepted holds legal owed))

  -- one of them is bad
  pub bad_owed : AllHold (checked f n) → (bad : Illegal) → IsFirstBad v (solid_of f n) 3 lines bad → (a ≡ No) × (t ≡ illegal_line bad)
      → OfCertificate OfAccepted c f a t
  bad_owed holds bad first exact =
      owed_so (OfCertificate OfAccepted c f) _ _ _ _ (opened few v n lines opens (by_lines OfAccepted c v n lines f _ _ one (line_bad holds bad first)))
      exact.0 exact.1

module _ (f : Contents) (c : List ℕ) (v : Version) (n : ℕ) (lines : List (List ℕ)) (few : length c ≤ CERT_LIMIT) (opens : Opens c v n lines)
    (one : IsOfOne v) where
  abbrev Ups : List ℕ → Owed
  Ups ns = OfText (upgraded_for f c ns)

  pub upgrade_fails : (reply : Reply) → TellsFalse fail_line f n reply → OfUpgrade c f reply.answer reply.text
  upgrade_fails reply (x, first, exact) = false_owed Ups f c v n lines reply.answer reply.text few opens one x first exact

  -- the lines are legal for a solid that is checked, and the text is upgraded for it
  pub upgraded_owed : (s : SolidData) (reply : Reply) → IsChecked f n s → IsLegal v s lines → OfText (upgraded s c) reply.answer reply.text
      → OfUpgrade c f reply.answer reply.text
  upgraded_owed s reply k legal owed =
      legal_owed Ups f c v n lines reply.answer reply.text few opens one k.holds (subst (λ (d : SolidData). IsLegal v d lines) k.solid legal)
      (subst (λ (d : SolidData). OfText (upgraded d c) reply.answer reply.text) k.solid owed)

  -- one of them is bad for it
  pub unfit_owed : (s : SolidData) (bad : Illegal) (reply : Reply) → IsChecked f n s → IsFirstBad v s 3 lines bad
      → (reply.answer ≡ No) × (reply.text ≡ illegal_line bad) → OfUpgrade c f reply.answer reply.text
  unfit_owed s bad reply k first exact = bad_owed Ups f c v n lines reply.answer reply.text few opens one k.holds bad
      (subst (λ (d : SolidData). IsFirstBad v d 3 lines bad) k.solid first) exact
