use Rattle.std.proofs.Common.{sym, ◌∙◌, ap, arith}
use Rattle.shell_change.specs.Pieces.{BeginsInOrder, begun_with}
use Rattle.shell_change.proofs.Matching.{none_below, one_below, each_fails, each_holds}
use Rattle.shell_change.proofs.PiecesLemmas.{none_begun, begun_more, begins_well, begins_badly}
use Rattle.shell_change.proofs.pieces.pieces_in_order.Goals as goal

pub faces-init : goal.faces-init
faces-init c = record { begun = none_begun c.args.fates.now; ordered = none_below (BeginsInOrder c.args.fates.now) c.args.fates.now }

pub returns-in-None : goal.returns-in-None
returns-in-None c =
    let none = sym (ap (λ p. begun_with p c.faces.begun) c.piece_of.ensures) ∙ (sym c.begun_with.ensures ∙ c.in-None.is) in
    each_fails (BeginsInOrder c.args.fates.now) c.args.fates.now c.faces.i _ c.item_at-fate.ensures
    (λ h. absurd (begins_badly c.args.fates.now c.faces.i c.faces.begun _ c.faces.invariant.begun none h))

pub faces-preserved : goal.faces-preserved
faces-preserved c =
    let more = sym (ap (λ p. begun_with p c.faces.begun) c.piece_of.ensures) ∙ (sym c.begun_with.ensures ∙ c.in-Some.is) in
    record {
      begun = begun_more c.args.fates.now c.faces.i c.faces.begun _ _ c.item_at-fate.ensures c.faces.invariant.begun more;
      ordered = one_below (BeginsInOrder c.args.fates.now) c.args.fates.now c.faces.i _ c.item_at-fate.ensures
          (begins_well c.args.fates.now c.faces.i c.faces.begun _ _ c.faces.invariant.begun more) c.faces.invariant.ordered;
    }

pub returns : goal.returns
returns c = each_holds (BeginsInOrder c.args.fates.now) c.args.fates.now c.faces.i (omega arith) c.faces.invariant.ordered
