use Rattle.std.proofs.Common.{◌<◌, arith, length}
use Rattle.solid_mend.specs.Mended.{IsTakenOf}
use Rattle.solid_mend.proofs.TakenLemmas.{at_index, zip_next}
use Rattle.solid_mend.proofs.taking.changes_of.Goals as goal

pub shells-preserved : goal.shells-preserved
shells-preserved c =
    let lt : c.shells.i < length c.args.found.now = omega (arith, c.shells-test.true) in
    let taken : IsTakenOf c.index-found-i.result c.in-Some.change = rw c.in-Some.is at c.in_ok-change.ensures in
    zip_next c.args.found.now c.shells.i c.index-found-i.result c.shells.changes c.push.new.self c.in-Some.change
    (at_index c.args.found.now c.shells.i c.index-found-i.result lt c.index-found-i.is) taken c.in_ok-push.ensures.ok c.shells.invariant
