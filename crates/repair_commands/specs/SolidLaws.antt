-- What holds of reorienting a solid by its definition.
use Rattle.std.specs.Prelude.{◌≡◌, ◌⊎◌, ℕ, Bool, List}
use Rattle.std.specs.List.{AllZip}
use Rattle.iges_params.specs.Contents.{Contents}
use Rattle.iges_params.specs.Limits.{FitsLimits}
use Rattle.cert_lines.specs.Line.{cut_lines}
use Rattle.command_replies.specs.declared.answer.Answer.{Answer}
use Rattle.command_replies.specs.declared.answer.Answer.TheVariants.{No}
use Rattle.orient_commands.specs.Due.{OfOrient}
use Rattle.orient_commands.specs.Laws.{AreSameOrRings}
use Rattle.solid_reorient.specs.Fitting.{HasFlags}
use Rattle.repair_commands.specs.SolidDue.{OfReorient}

-- One answer is owed, and one text but for which rings it names.
abbrev pub OneReorientAnswer : Type 0
OneReorientAnswer = (n : ℕ) (f : Contents) (a b : Answer) (t u : List ℕ) → OfReorient n f a t → OfReorient n f b u
    → (a ≡ b) × ((t ≡ u) ⊎ AllZip AreSameOrRings (cut_lines t) (cut_lines u))

-- Some answer is owed.
abbrev pub SomeReorientAnswer : Type 0
SomeReorientAnswer = (n : ℕ) (f : Contents) → FitsLimits f → (a : Answer) × (t : List ℕ) × OfReorient n f a t

-- Of a solid that has no flags no is answered: it is never oriented.
abbrev pub UnorientedIsNo : Type 0
UnorientedIsNo = (n : ℕ) (f : Contents) (a : Answer) (t : List ℕ) → ((x : List (List Bool)) → ¬ HasFlags f n x) → OfOrient n f a t → a ≡ No
