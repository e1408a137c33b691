-- When verifying answers yes.
use Rattle.std.proofs.Common.{◌≡◌, inl, ℕ, List, [], ◌∷◌, refl, sym, subst}
use Rattle.iges_params.specs.Contents.{Contents}
use Rattle.cert_lines.specs.declared.version.Version.{Version}
use Rattle.cert_lines.specs.declared.version.Version.TheVariants.{One, Two, Three}
use Rattle.cert_accept.specs.Accepted.{IsAccepted, IsAcceptedAlone}
use Rattle.cert_maker.proofs.Sound.{accepted_is_closed}
use Rattle.solid_verdict.proofs.Closed.{closed_is_all_hold_of_file}
use Rattle.iges_params.specs.Solids.{solids_of}
use Rattle.cert_maker.proofs.BookMade.{book_text_accepted}
use Rattle.cert_maker.proofs.OneText.{text_accepted}
use Rattle.cert_accept.proofs.Small.{accepted_is_small}
use Rattle.command_replies.specs.declared.answer.Answer.TheVariants.{Done}
use Rattle.command_replies.specs.Texts.{accepted_line, accepted_lines}
use Rattle.iges_params.specs.Limits.{FitsLimits}
use Rattle.cert_accept.specs.Laws.{upgraded_version}
use Rattle.cert_accept.proofs.UpgradedLaw.{upgraded_is_accepted}
use Rattle.solid_data.proofs.Members.{Contains-from_Has}
use Rattle.command_replies.specs.Due.{OfText, text_done}
use Rattle.certificate_commands.specs.Due.{OfVerify, upgraded_for}
use Rattle.iges_solid_cmd.specs.Due.{certified, all_certified}
use Rattle.iges_solid_cmd.specs.Yes.{BookIsVerified, YesIsAccepted, YesIsClosed, CertifiedIsVerified, UpgradedIsVerified}
use Rattle.certificate_commands.proofs.Judged.{OfYes, one_accepted}
use Rattle.certificate_commands.proofs.AcceptedOwed.{accepted_owed, accepted_then}

yes_then : (f : Contents) (c text : List ℕ) → OfVerify c f Done text → (v : Version) × (ns : List ℕ) × IsAccepted f c v ns × (text ≡ accepted_lines ns)
yes_then f c text owed = let then = accepted_then OfYes f c text owed in (then.0, then.1, then.2, then.3.1)

pub yes_is_accepted : YesIsAccepted
yes_is_accepted f c text few = (yes_then f c text, λ (v, ns, accepted, is). accepted_owed OfYes f c text v ns few accepted (refl, is))

pub yes_is_closed : YesIsClosed
yes_is_closed f c text owed = let then = yes_then f c text owed in (then.1, accepted_is_closed f c then.0 then.1 then.2, then.3)

-- what certifying writes, verifying accepts
pub certified_is_verified : CertifiedIsVerified
certified_is_verified n bytes f text few is (certified whole all made) =
    let accepted = text_accepted f n text ((closed_is_all_hold_of_file f n).1 all).placed made in
    accepted_owed OfYes f text (accepted_line n) Two (n ∷ []) (accepted_is_small bytes f Two n text few is (is_alone f text n accepted)) accepted
    (refl, sym (one_accepted n))
  where
    is_alone : (f : Contents) (c : List ℕ) (n : ℕ) → IsAccepted f c Two (n ∷ []) → IsAcceptedAlone Two f n c
    is_alone f c n (m, e, a) = let same : n ≡ m = cc in subst (λ (k : ℕ). IsAcceptedAlone Two f k c) (sym same) a

pub book_is_verified : BookIsVerified
book_is_verified f text few (all_certified whole some made book) = accepted_owed OfYes f text (accepted_lines (solids_of f)) Three (solids_of f) few
    (book_text_accepted f text some book) (refl, refl)

text_is : (whole text : List ℕ) → OfText whole Done text → text ≡ whole
text_is whole text (text_done few) = refl

-- what is upgraded for the first solid that it names stays accepted
upgraded_for_accepted : (f : Contents) (c : List ℕ) (v : Version) (ns : List ℕ) → FitsLimits f → IsAccepted f c v ns
    → IsAccepted f (upgraded_for f c ns) (upgraded_version v) ns
upgraded_for_accepted f c v (n ∷ ns) limits accepted = upgraded_is_accepted f c v (n ∷ ns) n limits (Contains-from_Has (n ∷ ns) n (inl refl)) accepted
upgraded_for_accepted f c One [] limits (n, same, alone) = absurd (let none : [] ≡ n ∷ [] = same in cc)
upgraded_for_accepted f c Two [] limits accepted = accepted
upgraded_for_accepted f c Three [] limits accepted = accepted

-- what upgrading writes is accepted too
pub upgraded_is_verified : UpgradedIsVerified
upgraded_is_verified f c text limits owed =
    let then = accepted_then (λ ns. OfText (upgraded_for f c ns)) f c text owed in
    let is : text ≡ upgraded_for f c then.1 = text_is (upgraded_for f c then.1) text then.3 in (
      then.0,
      then.1,
      then.2,
      is,
      subst (λ (t : List ℕ). IsAccepted f t (upgraded_version then.0) then.1) (sym is)
          (upgraded_for_accepted f c then.0 then.1 limits then.2),
    )
