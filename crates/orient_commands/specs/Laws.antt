-- What holds of orientations by their definition.
use Rattle.std.specs.Prelude.{◌≡◌, ◌⊎◌, ℕ, ◌≤◌, Bool, List, length}
use Rattle.std.specs.List.{AllByRecursion, AllZip, enumerate_from}
use Rattle.iges_params.specs.Contents.{Contents}
use Rattle.iges_params.specs.Limits.{FitsLimits}
use Rattle.solid_data.specs.Obligations.{AllHold}
use Rattle.solid_data.specs.SolidData.{SolidData}
use Rattle.solid_data.specs.declared.solid.Shell.{Shell}
use Rattle.shell_rules.specs.Closed.{IsClosedSolid}
use Rattle.brep_walk.specs.Places.{places}
use Rattle.brep_walk.specs.SolidOf.{solid_of}
use Rattle.flag_choice.specs.Turned.{turned}
use Rattle.cert_lines.specs.Line.{cut_lines}
use Rattle.cert_text.specs.declared.TheConstants.{CERT_LIMIT}
use Rattle.command_replies.specs.declared.answer.Answer.{Answer}
use Rattle.command_replies.specs.declared.answer.Answer.TheVariants.{Done}
use Rattle.command_replies.specs.Due.{Owed}
use Rattle.command_replies.specs.Texts.{accepted_line}
use Rattle.orient_commands.specs.Due.{IsRingLine, OfOrient, OfOrientVerify}
use Rattle.orient_commands.specs.Shells.{IsReady, OfAllShells}
use Rattle.orient_commands.specs.Turned.{AllFlagsFit, JoinsAndLinks}

-- some answer and text are owed
abbrev pub IsSome : Owed → Type 0
IsSome owed = (a : Answer) × (t : List ℕ) × owed a t

-- the lines are the same, or both are rings
abbrev pub AreSameOrRings : List ℕ → List ℕ → Type 0
AreSameOrRings l m = (l ≡ m) ⊎ (IsRingLine l × IsRingLine m)

-- Of orienting a solid one answer is owed, and one text but for which rings it names.
abbrev pub OneOrientation : Type 0
OneOrientation = (n : ℕ) (f : Contents) (a b : Answer) (t u : List ℕ) → OfOrient n f a t → OfOrient n f b u
    → (a ≡ b) × AllZip AreSameOrRings (cut_lines t) (cut_lines u)

-- Of verifying an orientation one answer and one text are owed.
abbrev pub OneVerifying : Type 0
OneVerifying = (text : List ℕ) (f : Contents) (a b : Answer) (t u : List ℕ) → OfOrientVerify text f a t → OfOrientVerify text f b u → (a ≡ b) × (t ≡ u)

-- An orientation that is owed of a solid is accepted, rings included, where it isn't too large.
abbrev pub OrientationIsAccepted : Type 0
OrientationIsAccepted = (n : ℕ) (f : Contents) (a : Answer) (text : List ℕ) → AllHold (places f n) → OfAllShells IsReady (solid_of f n) → OfOrient n f a text
    → length text ≤ CERT_LIMIT → OfOrientVerify text f Done (accepted_line n)

-- In a file within its limits some answer is owed of orienting any solid.
abbrev pub SomeOrientation : Type 0
SomeOrientation = (n : ℕ) (f : Contents) → FitsLimits f → IsSome (OfOrient n f)

-- Some answer is owed of verifying any text.
abbrev pub SomeVerifying : Type 0
SomeVerifying = (text : List ℕ) (f : Contents) → IsSome (OfOrientVerify text f)

-- Where COUNT and REACH hold, flags fit, and the solid with these flags keeps JOIN, LINK and APART, it is closed.
abbrev pub FittingFlagsClose : Type 0
FittingFlagsClose = (s : SolidData) (flags : List (List Bool)) → OfAllShells IsReady s → AllFlagsFit s flags
    → AllByRecursion (λ (h : ℕ × Shell). JoinsAndLinks (turned flags s) h.0 h.1) (enumerate_from 0 (turned flags s).shells)
    → IsClosedSolid (turned flags s)
