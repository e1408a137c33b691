-- What is owed of an open shell for which a certificate was made.
use Rattle.std.specs.Prelude.{◌≡◌, ℕ, List}
use Rattle.std.proofs.Common.{subst}
use Rattle.iges_params.specs.Contents.{Contents}
use Rattle.brep_walk.specs.OpenPlaces.{open_places, shell_solid_of}
use Rattle.command_replies.specs.declared.answer.Answer.TheVariants.{Done}
use Rattle.open_certificate.specs.Legal.{IsOpenAccepted}
use Rattle.open_certificate.specs.Obligations.{open_obligations, AllHold as AllRulesHold}
use Rattle.solid_data.specs.Obligations.{AllHold}
use Rattle.solid_data.specs.SolidData.{SolidData}
use Rattle.open_commands.specs.Due.{OfOpen, open_certified}
use Rattle.open_commands.proofs.AcceptedFor.{accepted_for}

-- s is the solid as it was walked
pub sound_owed : (f : Contents) (n : ℕ) (t : List ℕ) (s : SolidData) → AllHold (open_places f n) → s ≡ shell_solid_of f n → AllRulesHold (open_obligations s)
    → IsOpenAccepted s t → OfOpen n f Done t
sound_owed f n t s placed is rules accepted =
    open_certified t (placed, subst (λ (d : SolidData). AllRulesHold (open_obligations d)) is rules)
    (accepted_for f n t placed (subst (λ (d : SolidData). IsOpenAccepted d t) is accepted))
