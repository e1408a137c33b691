use Rattle.std.proofs.Common.{[], ◌∷◌, ◌+◌, drop, map}
use Rattle.std.proofs.lemmas.List.{drop_more}
use Rattle.std.proofs.lemmas.Result.{err_from_is_err_and}
use Rattle.record_values.specs.declared.due.ValueKind.TheVariants as slot
use Rattle.record_values.specs.Expected.{single}
use Rattle.record_values.proofs.Going.{gets_stop, one_slot}
use Rattle.record_values.proofs.misfit.after_group.Goals as goal

pub returns-in_err-next : goal.returns-in_err-next
returns-in_err-next c =
    let shape = c.args.shape.now in
    let i = c.slots.slot-index in
    let p = err_from_is_err_and c.from_residual.result c.from_residual.ensures.1 in
    rw (p.1, p.2) (gets_stop c.args.values.now c.args.at c.slots.next c.in_err-next.field-0.0 (map single shape) (map single (drop i shape)) (single _ ∷ [])
    (map single (drop (i + 1) shape)) c.slots.invariant
    (one_slot shape i _ (drop_more shape i slot.Pointer c.slots-test.true)) c.in_err-next.ensures)
