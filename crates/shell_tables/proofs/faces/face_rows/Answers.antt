use Rattle.std.proofs.Common.{◌≡◌, ◌+◌, ◌-◌, ℕ, length, slice_set, subst, arith}
use Rattle.shell_tables.proofs.FaceHeads.{HeadsFrom, heads_step, heads_done}
use Rattle.shell_tables.proofs.faces.face_rows.Goals as goal

pub rows-preserved : goal.rows-preserved
rows-preserved c =
    let i : ℕ = c.len-count.result - 1 - c.rows.k in
    let here : i ≡ length c.args.rows.now.rows - (c.rows.k + 1) = omega (arith, c.len-count.ensures.count) in
    subst (λ n. HeadsFrom c.args.rows.now n (slice_set c.rows.first.items c.face_of-face.result i) (slice_set c.rows.next.items i c.index.result.now)) here
    (heads_step c.args.rows.now (length c.args.rows.now.rows - c.rows.k) i c.face_of-face.result c.index.result.now c.rows.first.items c.rows.next.items
    c.len-count.ensures.kept (omega (arith, c.len-count.ensures.count, c.rows-test.true))
    c.face_of-face.ensures c.index.ensures c.rows.invariant)

pub returns : goal.returns
returns c = heads_done c.args.rows.now (length c.args.rows.now.rows - c.rows.k) c.rows.first.items c.rows.next.items
    (omega (arith, c.len-count.ensures.count, c.rows-test.false)) c.rows.invariant
