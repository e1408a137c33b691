-- What is owed is one answer, with one text but for two commands.
use Rattle.std.specs.Prelude.{◌≡◌, ◌⊎◌, ℕ, List, IsSomeAnd}
use Rattle.std.specs.List.{AllZip}
use Rattle.cert_lines.specs.Line.{cut_lines}
use Rattle.command_replies.specs.declared.answer.Answer.{Answer}
use Rattle.command_replies.specs.declared.answer.Answer.TheVariants.{Done}
use Rattle.orient_commands.specs.Laws.{AreSameOrRings}
use Rattle.iges_solid_cmd.specs.declared.form.Command.{Command}
use Rattle.iges_solid_cmd.specs.declared.form.Command.TheVariants as command
use Rattle.iges_solid_cmd.specs.declared.form.FileCommand.TheVariants as of_file
use Rattle.iges_solid_cmd.specs.declared.form.EntityCommand.TheVariants as of_entity
use Rattle.iges_solid_cmd.specs.Forms.{command_of}
use Rattle.iges_solid_cmd.specs.Due.{Due}

-- How two texts that are owed with this answer may differ: an open shell may have several certificates that are accepted, and an orientation may name one ring
-- or another.
abbrev pub MayDiffer : Command → Answer → List ℕ → List ℕ → Type 0
MayDiffer (command.File (of_file.Entity of_entity.Open n)) a t u = a ≡ Done
MayDiffer (command.File (of_file.Entity of_entity.Orient n)) a t u = AllZip AreSameOrRings (cut_lines t) (cut_lines u)
MayDiffer _ a t u = ⊥

-- Two that are owed have one answer, and one text but for those.
abbrev pub OneAnswerIsOwed : Type 0
OneAnswerIsOwed =
    (words : List (List ℕ)) (file certificate : List ℕ) (a b : Answer) (t u : List ℕ) → Due words file certificate a t → Due words file certificate b u
    → (a ≡ b) × ((t ≡ u) ⊎ IsSomeAnd (command_of words) (λ c. MayDiffer c a t u))

-- Some answer and text are owed.
abbrev pub SomeAnswerIsOwed : Type 0
SomeAnswerIsOwed = (words : List (List ℕ)) (file certificate : List ℕ) → (a : Answer) × (t : List ℕ) × Due words file certificate a t
