-- The commands for a file, a row each: at most one answer is owed, some answer is owed, and it is a verdict on the file.
use Rattle.std.proofs.Common.{◌≡◌, ◌⊎◌, length, inl, inr, ℕ, List, ◌≤◌, refl}
use Rattle.iges_params.specs.Contents.{Contents}
use Rattle.iges_solid_cmd.proofs.WrittenFiles.{one_extract, one_compact, some_extract, some_compact}
use Rattle.iges_solid_cmd.specs.declared.form.Command.{Command}
use Rattle.iges_solid_cmd.specs.declared.form.FileCommand.{FileCommand}
use Rattle.command_replies.specs.Texts.{accepted_lines, fail_line}
use Rattle.iges_solid_cmd.specs.Texts.{solids_text}
use Rattle.command_replies.specs.declared.answer.Answer.{Answer}
use Rattle.command_replies.specs.Due.{Exactly, Owed, OfText}
use Rattle.file_replies.specs.Due.{OfExtract}
use Rattle.iges_solid_cmd.specs.Due.{OfSolids, OfShow, OfCertify, OfCertifyAll, OfCompact, OfContents}
use Rattle.iges_solid_cmd.specs.OneAnswer.{MayDiffer}
use Rattle.command_replies.proofs.One.{IsOne, exactly_one}
use Rattle.open_commands.specs.Due.{OfOpen, open_misplaced, open_unsound, open_certified, OfOpenVerify, open_fail_line}
use Rattle.open_commands.proofs.One.{one_open, one_verify}
use Rattle.orient_commands.specs.Due.{OfOrient, OfOrientVerify}
use Rattle.orient_commands.proofs.OneOwed.{orienting_one, verifying_one}
use Rattle.certificate_commands.specs.Due.{OfUpgrade, OfVerify, upgraded_for}
use Rattle.certificate_commands.proofs.One.{verify_one, upgrade_one}
use Rattle.iges_base.specs.declared.TheConstants.{FILE_LIMIT}
use Rattle.iges_params.specs.IsFile.{IsFile}
use Rattle.iges_write.proofs.Made.{can_be_made}
use Rattle.open_commands.proofs.SomeDue.{some_open, some_verify}
use Rattle.orient_commands.proofs.SomeOwed.{orienting_due, verifying_due}
use Rattle.command_replies.proofs.SomeDue.{IsSome}
use Rattle.certificate_commands.proofs.SomeDue.{verify_due, upgrade_due}
use Rattle.command_replies.specs.declared.answer.Answer.TheVariants.{Done, No}
use Rattle.command_replies.proofs.Verdicts.{IsFileVerdict, exactly_so, text_verdict}
use Rattle.certificate_commands.proofs.Verdicts.{certificate_verdict}
use Rattle.iges_solid_cmd.specs.declared.form.WholeCommand.{WholeCommand}
use Rattle.iges_solid_cmd.specs.declared.form.EntityCommand.{EntityCommand}
use Rattle.iges_solid_cmd.specs.declared.form.CertificateCommand.{CertificateCommand}
use Rattle.iges_solid_cmd.specs.declared.form.Command.TheVariants as command
use Rattle.iges_solid_cmd.specs.declared.form.FileCommand.TheVariants as of_file
use Rattle.command_replies.specs.declared.answer.Answer.TheVariants as answer
use Rattle.iges_solid_cmd.specs.declared.form.WholeCommand.TheVariants as of_whole
use Rattle.iges_solid_cmd.specs.declared.form.EntityCommand.TheVariants as of_entity
use Rattle.iges_solid_cmd.specs.declared.form.CertificateCommand.TheVariants as of_certificate
use Rattle.iges_solid_cmd.specs.Due.{OfCertificate, OfEntity, OfWhole}
use Rattle.iges_solid_cmd.proofs.OwedOne.{all_one, certify_one, show_one}
use Rattle.iges_solid_cmd.proofs.OwedSome.{all_due, certify_due, show_due}
use Rattle.iges_solid_cmd.proofs.OwedVerdicts.{certify_all_verdict, certify_verdict, compact_verdict, extract_verdict, open_verdict, open_verify_verdict}
use Rattle.iges_solid_cmd.proofs.OwedVerdicts.{orient_verdict, orient_verify_verdict, show_verdict}

-- at most one answer is owed, and one text but for how the command lets them differ
abbrev pub IsAlike : Command → Owed → Type 0
IsAlike c owed = (a b : Answer) (t u : List ℕ) → owed a t → owed b u → (a ≡ b) × ((t ≡ u) ⊎ MayDiffer c a t u)

pub alike : (c : Command) (owed : Owed) → IsOne owed → IsAlike c owed
alike c owed one a b t u p q = let same = one a b t u p q in (same.0, inl same.1)

open_alike : (n : ℕ) (f : Contents) → IsAlike (command.File (of_file.Entity of_entity.Open n)) (OfOpen n f)
open_alike n f a b t u (open_misplaced x h) q = let same = one_open n f No b (fail_line x) u (open_misplaced x h) q in (same.0, inl (same.1 refl))
open_alike n f a b t u (open_unsound x h) q = let same = one_open n f No b (open_fail_line x) u (open_unsound x h) q in (same.0, inl (same.1 refl))
open_alike n f a b t u (open_certified text h accepted) q = let same = one_open n f Done b text u (open_certified text h accepted) q in (same.0, inr refl)

orient_alike : (n : ℕ) (f : Contents) → IsAlike (command.File (of_file.Entity of_entity.Orient n)) (OfOrient n f)
orient_alike n f a b t u p q = let same = orienting_one n f a b t u p q in (same.0, inr same.1)

-- ---- a row each

whole_one : (c : WholeCommand) (f : Contents) → IsAlike (command.File (of_file.Whole c)) (OfWhole c f)
whole_one of_whole.Solids f = alike (command.File (of_file.Whole of_whole.Solids)) (OfSolids f) (exactly_one answer.Done (solids_text f))
whole_one of_whole.CertifyAll f = alike (command.File (of_file.Whole of_whole.CertifyAll)) (OfCertifyAll f) (all_one f)

entity_one : (c : EntityCommand) (n : ℕ) (f : Contents) → IsAlike (command.File (of_file.Entity c n)) (OfEntity c n f)
entity_one of_entity.Show n f = alike (command.File (of_file.Entity of_entity.Show n)) (OfShow n f) (show_one n f)
entity_one of_entity.Certify n f = alike (command.File (of_file.Entity of_entity.Certify n)) (OfCertify n f) (certify_one n f)
entity_one of_entity.Extract n f = alike (command.File (of_file.Entity of_entity.Extract n)) (OfExtract n f) (one_extract n f)
entity_one of_entity.Open n f = open_alike n f
entity_one of_entity.Orient n f = orient_alike n f
entity_one of_entity.Compact n f = alike (command.File (of_file.Entity of_entity.Compact n)) (OfCompact n f) (one_compact n f)

certificate_one : (c : CertificateCommand) (certificate : List ℕ) (f : Contents)
    → IsAlike (command.File (of_file.Certificate c)) (OfCertificate c certificate f)
certificate_one of_certificate.Verify certificate f = alike (command.File (of_file.Certificate of_certificate.Verify)) (OfVerify certificate f)
    (verify_one certificate f)
certificate_one of_certificate.Upgrade certificate f = alike (command.File (of_file.Certificate of_certificate.Upgrade)) (OfUpgrade certificate f)
    (upgrade_one certificate f)
certificate_one of_certificate.OpenVerify certificate f = alike (command.File (of_file.Certificate of_certificate.OpenVerify)) (OfOpenVerify certificate f)
    (one_verify certificate f)
certificate_one of_certificate.OrientVerify certificate f = alike (command.File (of_file.Certificate of_certificate.OrientVerify))
    (OfOrientVerify certificate f) (verifying_one certificate f)

pub contents_one : (c : FileCommand) (certificate : List ℕ) (f : Contents) → IsAlike (command.File c) (OfContents c certificate f)
contents_one (of_file.Whole c) certificate f = whole_one c f
contents_one (of_file.Entity c n) certificate f = entity_one c n f
contents_one (of_file.Certificate c) certificate f = certificate_one c certificate f

whole_due : (c : WholeCommand) (f : Contents) (bytes : List ℕ) → length bytes ≤ FILE_LIMIT → IsFile bytes f → IsSome (OfWhole c f)
whole_due of_whole.Solids f bytes few is = (answer.Done, solids_text f, (refl, refl))
whole_due of_whole.CertifyAll f bytes few is = all_due f bytes few is

entity_due : (c : EntityCommand) (n : ℕ) (f : Contents) (bytes : List ℕ) → length bytes ≤ FILE_LIMIT → IsFile bytes f → IsSome (OfEntity c n f)
entity_due of_entity.Show n f bytes few is = show_due n f
entity_due of_entity.Certify n f bytes few is = certify_due n f bytes few is
entity_due of_entity.Extract n f bytes few is = some_extract n f
entity_due of_entity.Open n f bytes few is = some_open n f (can_be_made bytes f few is).made.limits
entity_due of_entity.Orient n f bytes few is = orienting_due n f (can_be_made bytes f few is).made.limits
entity_due of_entity.Compact n f bytes few is = some_compact n f

certificate_due : (c : CertificateCommand) (certificate : List ℕ) (f : Contents) (bytes : List ℕ) → length bytes ≤ FILE_LIMIT → IsFile bytes f
    → IsSome (OfCertificate c certificate f)
certificate_due of_certificate.Verify certificate f bytes few is = verify_due certificate f
certificate_due of_certificate.Upgrade certificate f bytes few is = upgrade_due certificate f
certificate_due of_certificate.OpenVerify certificate f bytes few is = some_verify certificate f
certificate_due of_certificate.OrientVerify certificate f bytes few is = verifying_due certificate f

pub contents_due : (c : FileCommand) (certificate : List ℕ) (f : Contents) (bytes : List ℕ) → length bytes ≤ FILE_LIMIT → IsFile bytes f
    → IsSome (OfContents c certificate f)
contents_due (of_file.Whole c) certificate f bytes few is = whole_due c f bytes few is
contents_due (of_file.Entity c n) certificate f bytes few is = entity_due c n f bytes few is
contents_due (of_file.Certificate c) certificate f bytes few is = certificate_due c certificate f bytes few is

whole_verdict : (c : WholeCommand) (f : Contents) (a : Answer) (t : List ℕ) → OfWhole c f a t → IsFileVerdict a
whole_verdict of_whole.Solids f a t owed = exactly_so Done (solids_text f) tt a t owed
whole_verdict of_whole.CertifyAll f a t owed = certify_all_verdict f a t owed

entity_verdict : (c : EntityCommand) (n : ℕ) (f : Contents) (a : Answer) (t : List ℕ) → OfEntity c n f a t → IsFileVerdict a
entity_verdict of_entity.Show n f a t = show_verdict n f a t
entity_verdict of_entity.Certify n f a t = certify_verdict n f a t
entity_verdict of_entity.Extract n f a t = extract_verdict n f a t
entity_verdict of_entity.Open n f a t = open_verdict n f a t
entity_verdict of_entity.Orient n f a t = orient_verdict n f a t
entity_verdict of_entity.Compact n f a t = compact_verdict n f a t

certificate_verdict_of : (c : CertificateCommand) (certificate : List ℕ) (f : Contents) (a : Answer) (t : List ℕ) → OfCertificate c certificate f a t
    → IsFileVerdict a
certificate_verdict_of of_certificate.Verify certificate f a t owed = certificate_verdict (λ ns. Exactly Done (accepted_lines ns))
    (λ ns. exactly_so Done (accepted_lines ns) tt) certificate f a t owed
certificate_verdict_of of_certificate.Upgrade certificate f a t owed = certificate_verdict (λ ns. OfText (upgraded_for f certificate ns))
    (λ ns. text_verdict (upgraded_for f certificate ns)) certificate f a t owed
certificate_verdict_of of_certificate.OpenVerify certificate f a t owed = open_verify_verdict certificate f a t owed
certificate_verdict_of of_certificate.OrientVerify certificate f a t owed = orient_verify_verdict certificate f a t owed

pub contents_verdict : (c : FileCommand) (certificate : List ℕ) (f : Contents) (a : Answer) (t : List ℕ) → OfContents c certificate f a t → IsFileVerdict a
contents_verdict (of_file.Whole c) certificate f = whole_verdict c f
contents_verdict (of_file.Entity c n) certificate f = entity_verdict c n f
contents_verdict (of_file.Certificate c) certificate f = certificate_verdict_of c certificate f
