-- What the definitions say of answers and texts.
use Rattle.std.specs.Prelude.{◌≡◌, ◌≤◌, ◌↔◌, ◌⊎◌, ℕ, List, Ok, Option, Some, None, length, ⊤}
use Rattle.std.specs.List.{AllZip}
use Rattle.iges_base.specs.declared.TheConstants.{FILE_LIMIT}
use Rattle.line_layout.specs.Relaid.{relaid}
use Rattle.command_replies.specs.declared.answer.Answer.{Answer}
use Rattle.command_replies.specs.declared.answer.Answer.TheVariants.{Done}
use Rattle.cert_lines.specs.Line.{cut_lines}
use Rattle.orient_commands.specs.Laws.{AreSameOrRings}
use Rattle.repair_commands.specs.declared.request.LineCommand.TheVariants.{Layout}
use Rattle.repair_commands.specs.declared.request.Request.{Request}
use Rattle.repair_commands.specs.declared.request.Request.TheVariants as request
use Rattle.repair_commands.specs.Request.{request_of}
use Rattle.repair_commands.specs.Due.{Due, OfLines}

-- One answer and one text, but for which rings an orientation names, and but for mending, of which it is open how it is done.
abbrev pub AreOneReply : Option Request → Answer → Answer → List ℕ → List ℕ → Type 0
AreOneReply None a b t u = (a ≡ b) × (t ≡ u)
AreOneReply (Some (request.Lines c)) a b t u = (a ≡ b) × (t ≡ u)
AreOneReply (Some (request.Reorient n)) a b t u = (a ≡ b) × ((t ≡ u) ⊎ AllZip AreSameOrRings (cut_lines t) (cut_lines u))
AreOneReply (Some (request.Mend n choice)) a b t u = ⊤
AreOneReply (Some (request.Mended n choice)) a b t u = ⊤

-- Two that are owed are one.
abbrev pub OneAnswerIsOwed : Type 0
OneAnswerIsOwed = (words : List (List ℕ)) (bytes : List ℕ) (a b : Answer) (t u : List ℕ) → Due words bytes a t → Due words bytes b u
    → AreOneReply (request_of words) a b t u

-- Some answer is owed, and a text.
abbrev pub SomeAnswerIsOwed : Type 0
SomeAnswerIsOwed = (words : List (List ℕ)) (bytes : List ℕ) → (a : Answer) × (t : List ℕ) × Due words bytes a t

-- Of the layout of a file within the limit, yes is answered exactly where the file that is made is the bytes themselves.
abbrev pub InLayoutIsTold : Type 0
InLayoutIsTold = (bytes : List ℕ) (a : Answer) (t : List ℕ) → length bytes ≤ FILE_LIMIT → OfLines Layout bytes a t → (a ≡ Done) ↔ (relaid bytes ≡ Ok bytes)
