-- What is owed of lines that were judged.
use Rattle.std.proofs.Common.{◌≡◌, ℕ, List, subst, inl, inr}
use Rattle.iges_params.specs.Contents.{Contents}
use Rattle.solid_data.specs.Obligations.{AllHold}
use Rattle.solid_data.specs.SolidData.{SolidData}
use Rattle.brep_walk.specs.Places.{places}
use Rattle.brep_walk.specs.SolidOf.{solid_of}
use Rattle.command_replies.specs.Texts.{accepted_line, illegal_line}
use Rattle.command_replies.specs.declared.answer.Answer.TheVariants as answer
use Rattle.command_replies.specs.declared.reply.Reply.{Reply}
use Rattle.command_replies.proofs.Owing.{owed_so}
use Rattle.orient_commands.specs.Due.{OfOrientLines, line_bad, lines_accepted}
use Rattle.orient_commands.specs.Reading.{IsOfLines}
use Rattle.orient_commands.specs.Shells.{IsCounted, OfAllShells}
use Rattle.orient_commands.specs.Text.{AreWhole, IsFirstBad}

-- s is the solid as it was walked
module _ (f : Contents) (n : ℕ) (lines : List (List ℕ)) (s : SolidData) (same : s ≡ solid_of f n) (all : AllHold (places f n))
    (two : OfAllShells IsCounted s) where
  pub lines_owed : (reply : Reply) → IsOfLines s n lines reply → OfOrientLines n lines f reply.answer reply.text
  lines_owed reply (inl (bad, first, exact)) =
      let row = line_bad all (subst (OfAllShells IsCounted) same two) bad (subst (λ (x : SolidData). IsFirstBad x 2 lines bad) same first) in
      owed_so (OfOrientLines n lines f) answer.No reply.answer (illegal_line bad) reply.text row exact.0 exact.1
  lines_owed reply (inr (whole, exact)) =
      let row = lines_accepted all (subst (OfAllShells IsCounted) same two) (subst (λ (x : SolidData). AreWhole x 2 lines) same whole) in
      owed_so (OfOrientLines n lines f) answer.Done reply.answer (accepted_line n) reply.text row exact.0 exact.1
