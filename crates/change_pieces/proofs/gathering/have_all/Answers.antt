use Rattle.std.specs.Prelude.{get_or}
use Rattle.std.proofs.Common.{refl, arith, subst}
use Rattle.shell_change.proofs.Matching.{none_below, one_below, each_holds}
use Rattle.change_pieces.specs.Gathered.{HasAll}
use Rattle.change_pieces.proofs.gathering.have_all.Goals as goal

pub shells-init : goal.shells-init
shells-init c = none_below _ c.args.shells.now

pub shells-preserved : goal.shells-preserved
shells-preserved c =
    one_below (λ piece h. HasAll c.args.flag (get_or c.args.counts.now piece 0) h) c.args.shells.now c.shells.i _ c.item_at-shell.ensures
    (subst (λ n. HasAll c.args.flag n c.item_at-shell.result.now) c.count_of.ensures (c.if-not-has_all.ensures refl)) c.shells.invariant

pub returns : goal.returns
returns c = λ t. (each_holds (λ piece h. HasAll c.args.flag (get_or c.args.counts.now piece 0) h) c.args.shells.now c.shells.i (omega arith) c.shells.invariant).0 refl
