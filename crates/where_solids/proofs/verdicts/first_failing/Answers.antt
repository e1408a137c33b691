use Rattle.where_solids.proofs.FirstFailing.{face_first, gap_first, pair_first, shared_first, vertex_first}
use Rattle.where_solids.proofs.verdicts.first_failing.Goals as goal

pub returns-in-Some : goal.returns-in-Some
returns-in-Some c = gap_first c.args.solid.now c.args.shell.now c.args.faults.now c.in-Some.failing (rw c.gaps.ensures at c.in-Some.ensures)

pub returns-in-Some-first_unpaired : goal.returns-in-Some-first_unpaired
returns-in-Some-first_unpaired c =
    pair_first c.args.solid.now c.args.shell.now c.args.faults.now c.in-Some-first_unpaired.failing (rw c.gaps.ensures at c.in_default.ensures)
    (rw c.unpaired.ensures at c.in-Some-first_unpaired.ensures)

pub returns-in-Some-first_apart : goal.returns-in-Some-first_apart
returns-in-Some-first_apart c =
    face_first c.args.solid.now c.args.shell.now c.args.faults.now c.in-Some-first_apart.failing (rw c.gaps.ensures at c.in_default.ensures)
    (rw c.unpaired.ensures at c.in_default-first_unpaired.ensures)
    (rw (c.as_slice.ensures, c.firsts.ensures) at c.in-Some-first_apart.ensures)

pub returns-in-Some-first_unlinked : goal.returns-in-Some-first_unlinked
returns-in-Some-first_unlinked c =
    vertex_first c.args.solid.now c.args.shell.now c.args.faults.now c.in-Some-first_unlinked.failing (rw c.gaps.ensures at c.in_default.ensures)
    (rw c.unpaired.ensures at c.in_default-first_unpaired.ensures)
    (rw (c.as_slice.ensures, c.firsts.ensures) at c.in_default-first_apart.ensures) (rw c.linking.ensures at c.in-Some-first_unlinked.ensures)

pub returns : goal.returns
returns c =
    shared_first c.args.solid.now c.args.shell.now c.args.faults.now c.first_shared.result (rw c.gaps.ensures at c.in_default.ensures)
    (rw c.unpaired.ensures at c.in_default-first_unpaired.ensures)
    (rw (c.as_slice.ensures, c.firsts.ensures) at c.in_default-first_apart.ensures)
    (rw c.linking.ensures at c.in_default-first_unlinked.ensures) (rw c.shared.ensures at c.first_shared.ensures)
