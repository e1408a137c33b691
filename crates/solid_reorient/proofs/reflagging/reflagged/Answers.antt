use Rattle.std.specs.Prelude.{option_copied, slice_get, pos}
use Rattle.std.proofs.Common.{◌≡◌, ◌∙◌, Some, ◌+◌, ◌*◌, ◌≤◌, get_or, sym, ap, refl, arith}
use Rattle.solid_reorient.specs.Steps.{list_numbered}
use Rattle.iges_params.specs.Contents.{Contents, value_count}
use Rattle.brep_walk.specs.Places.{numbers, shells}
use Rattle.solid_reorient.proofs.Emptied.{none_emptied, taken_at, next_emptied, room, next_entries, all_reflagged, unused_none, values_told}
use Rattle.solid_reorient.proofs.Noting.{any_default}
use Rattle.solid_reorient.proofs.reflagging.reflagged.Goals as goal

pub entries-init : goal.entries-init
entries-init c = record { left = none_emptied c.args.file; entries = c.in_ok-new.ensures }

pub push-requires-clause-unused : goal.push-requires-clause-unused
push-requires-clause-unused c t =
    let is = sym c.entry_at.ensures.entry ∙ ap option_copied c.unwrap.ensures in
    let at : slice_get c.args.file.entries c.entries.i ≡ Some (c.unwrap.result.now, c.take_values-taken.result) =
    taken_at c.args.file c.entries.file c.entries.i c.entries.invariant.left c.unwrap.result.now is c.take_values-taken.result
    c.take_values-taken.ensures.taken in
    unused_none c.args.file c.entry_count-count.ensures.made c.entries.i (c.unwrap.result.now, c.take_values-taken.result) c.entry_values-values.result _ at
    c.entry_values-values.ensures t

pub push-requires-clause-few : goal.push-requires-clause-few
push-requires-clause-few c =
    let is = sym c.entry_at.ensures.entry ∙ ap option_copied c.unwrap.ensures in
    let at : slice_get c.args.file.entries c.entries.i ≡ Some (c.unwrap.result.now, c.take_values-taken.result) =
    taken_at c.args.file c.entries.file c.entries.i c.entries.invariant.left c.unwrap.result.now is c.take_values-taken.result
    c.take_values-taken.ensures.taken in
    let here : c.index.result.now ≡ get_or c.in_ok-table.table.items c.entries.i 0 =
    c.index.ensures ∙ any_default c.in_ok-table.table.items c.entries.i c.index.result.now 0 (omega (arith, c.entries-test.true, c.in_ok-table.ensures.long)) in
    let told = ap (list_numbered c.args.flags.now) here ∙ c.in_ok-table.ensures.told c.args.flags.now c.entries.i (omega (arith, c.entries-test.true)) in
    let values =
    values_told c.as_slice-in-entries.result.now c.args.flags.now c.as_slice.result.now (numbers (shells c.args.file (pos c.args.no.0))) _
    (2 * c.entries.i + 1) (c.unwrap.result.now, c.take_values-taken.result) c.entry_values-values.result c.entry_values-values.ensures
    c.as_slice-in-entries.ensures told (c.as_slice.ensures ∙ c.in_ok-shells.ensures) in
    let most : value_count c.args.file.entries ≤ 164000000 = c.entry_count-count.ensures.made.limits.values in
    room c.args.flags.now (numbers (shells c.args.file (pos c.args.no.0))) c.args.file c.entries.i (c.unwrap.result.now, c.take_values-taken.result) at
    c.entry_values-values.result c.entries.new.entries most values c.entries.invariant.entries

pub entries-preserved : goal.entries-preserved
entries-preserved c =
    let is = sym c.entry_at.ensures.entry ∙ ap option_copied c.unwrap.ensures in
    let at : slice_get c.args.file.entries c.entries.i ≡ Some (c.unwrap.result.now, c.take_values-taken.result) =
    taken_at c.args.file c.entries.file c.entries.i c.entries.invariant.left c.unwrap.result.now is c.take_values-taken.result
    c.take_values-taken.ensures.taken in
    let here : c.index.result.now ≡ get_or c.in_ok-table.table.items c.entries.i 0 =
    c.index.ensures ∙ any_default c.in_ok-table.table.items c.entries.i c.index.result.now 0 (omega (arith, c.entries-test.true, c.in_ok-table.ensures.long)) in
    let told = ap (list_numbered c.args.flags.now) here ∙ c.in_ok-table.ensures.told c.args.flags.now c.entries.i (omega (arith, c.entries-test.true)) in
    let values =
    values_told c.as_slice-in-entries.result.now c.args.flags.now c.as_slice.result.now (numbers (shells c.args.file (pos c.args.no.0))) _
    (2 * c.entries.i + 1) (c.unwrap.result.now, c.take_values-taken.result) c.entry_values-values.result c.entry_values-values.ensures
    c.as_slice-in-entries.ensures told (c.as_slice.ensures ∙ c.in_ok-shells.ensures) in
    let inv = c.entries.invariant in
    record {
      left = next_emptied c.args.file c.entries.file c.entries.i inv.left c.unwrap.result.now is c.take_values-taken.new.self
          (omega (arith, c.entries-test.true, c.entry_count-count.ensures.is, inv.left.long)) c.take_values-taken.ensures.left;
      entries = next_entries c.args.flags.now (numbers (shells c.args.file (pos c.args.no.0))) c.args.file c.entries.i
          (c.unwrap.result.now, c.take_values-taken.result) at c.entry_values-values.result c.entries.new.entries c.push.new.self.entries values inv.entries
          (ap (λ (x : Contents). x.entries) c.in_ok-push.ensures.ok);
    }

pub returns : goal.returns
returns c =
    all_reflagged c.args.file c.entries.file c.entries.new c.take_front.new.self c.args.no.0 c.args.flags.now
    (numbers (shells c.args.file (pos c.args.no.0))) c.entries.i refl c.entries.invariant.left c.take_front.ensures c.entries.invariant.entries
    (omega (arith, c.entries-test.false, c.entry_count-count.ensures.is))
