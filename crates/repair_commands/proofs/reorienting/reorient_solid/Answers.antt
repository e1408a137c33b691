use Rattle.std.proofs.Common.{rules, List, Bool, sym, subst}
use Rattle.std.proofs.lemmas.Result.{IfOk-weaker}
use Rattle.solid_data.proofs.ObligationLemmas.{FirstFalse-not_all}
use Rattle.solid_data.specs.Obligations.{FirstFalse}
use Rattle.solid_data.specs.SolidData.{SolidData}
use Rattle.brep_walk.specs.Places.{places}
use Rattle.flag_choice.specs.Suiting.{AllSuit}
use Rattle.command_replies.specs.Texts.{fail_line}
use Rattle.command_replies.specs.declared.answer.Answer.TheVariants as answer
use Rattle.command_replies.proofs.Replying.{reply_owed}
use Rattle.orient_commands.specs.Due.{misplaced}
use Rattle.repair_commands.specs.SolidDue.{OfReorient, unoriented}
use Rattle.repair_commands.proofs.reorienting.reorient_solid.Goals as goal

pub returns-in-Err-Fails : goal.returns-in-Err-Fails
returns-in-Err-Fails c =
    let x = c.in-Err-Fails.failing in
    let first : FirstFalse (places c.args.file c.args.no) x = search rules in
    reply_owed (OfReorient c.args.no c.args.file) answer.No (fail_line x) c.failed.result
    (unoriented (λ flags has. FirstFalse-not_all (places c.args.file c.args.no) x first has.places) (misplaced x first)) c.failed.ensures

pub returns-in_default : goal.returns-in_default
returns-in_default c =
    let none : (x : List (List Bool)) → AllSuit c.in-Ok.solid x → ⊥ = rw c.in_default.is at c.in_ok-flags.ensures.none in
    IfOk-weaker c.orient_walked.result _ _
    (λ reply owed. unoriented (λ flags has. none flags (subst (λ (s : SolidData). AllSuit s flags) (sym c.in-Ok.ensures.solid) has.suit))
    (owed c.args.file c.args.no c.in-Ok.ensures.solid c.in-Ok.ensures.holds)) c.orient_walked.ensures

pub with_flags-requires : goal.with_flags-requires
with_flags-requires c =
    let suit : AllSuit c.in-Ok.solid c.in-Some.flags = rw c.in-Some.is at c.in_ok-flags.ensures.found in
    record { places = c.in-Ok.ensures.holds; suit = subst (λ (s : SolidData). AllSuit s c.in-Some.flags) c.in-Ok.ensures.solid suit }
