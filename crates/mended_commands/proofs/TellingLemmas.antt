-- What is told of the file without what a solid names twice.
use Rattle.std.specs.Prelude.{ℕ, List, Some}
use Rattle.std.proofs.Common.{subst}
use Rattle.iges_params.specs.Contents.{Contents}
use Rattle.solid_data.specs.declared.verdict.Failing.{Failing}
use Rattle.solid_extract.specs.Extracted.{IsExtracted}
use Rattle.named_once.specs.Once.{once, dropped}
use Rattle.named_once.specs.declared.places.Dropped.{Dropped}
use Rattle.command_replies.specs.declared.answer.Answer.{Answer}
use Rattle.mend_commands.specs.State.{IsAgain}
use Rattle.mend_commands.specs.declared.naming.Again.{Again}
use Rattle.mended_commands.specs.Due.{OfMended, again, OfToldPlaced}

pub again_told : (f : Contents) (n : ℕ) (x : Failing) (made : Again) (g : Contents) → IsExtracted f n g → IsAgain f n x made → (a : Answer) (t : List ℕ)
    → OfToldPlaced n made.file (Some x) made.dropped a t → OfMended n f a t
again_told f n x made g extracted is a t owed =
    let here : OfToldPlaced n (once f n) (Some x) made.dropped a t = subst (λ (h : Contents). OfToldPlaced n h (Some x) made.dropped a t) is.file owed in
    again g extracted x is.twice (subst (λ (ds : List Dropped). OfToldPlaced n (once f n) (Some x) ds a t) is.places here)
