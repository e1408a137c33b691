use Rattle.std.proofs.Common.{◌≡◌, ℕ, ◌+◌, ◌*◌, ◌<◌, ◌^◌, true, List, length, drop, arith}
use Rattle.iges_fields.specs.declared.value.Value.{Value}
use Rattle.brep_lists.specs.Record.{count_at}
use Rattle.brep_lists.specs.Groups.{tuple_passes}
use Rattle.brep_loops.proofs.Curves.{count_within, curves_within, no_curves, counted_ends}
use Rattle.brep_loops.proofs.ends.ends_of_tuple.Goals as goal

pub overflow_add-count_place : goal.overflow_add-count_place
overflow_add-count_place c =
    let within = count_within c.args.values.now c.args.at c.requires in
    omega (arith, within, c.len-len.type_inv, c.len-len.ensures.is)

pub returns-then-count_place-len : goal.returns-then-count_place-len
returns-then-count_place-len c =
    let within = count_within c.args.values.now c.args.at c.requires in
    no_curves c.args.values.now c.args.at (omega (arith, c.len-len.ensures.is, c.if-count_place-len.true))
    (omega (arith, within, c.len-len.type_inv, c.len-len.ensures.is))

within_64 : (vs : List Value) (at curves len : ℕ) → tuple_passes (drop at vs) ≡ true → curves ≡ count_at vs (at + 4) → len ≡ length vs → at + 4 < len →
    len < 2 ^ 64 → at + 4 + 1 + curves * 2 < 2 ^ 64
within_64 vs at curves len pass counted is below small = omega (arith, curves_within vs at curves pass counted (omega (arith, is, below)), is, small)

pub overflow_mul-result : goal.overflow_mul-result
overflow_mul-result c =
    let small = within_64 c.args.values.now c.args.at c.count_at-curves.result c.len-len.result c.requires c.count_at-curves.ensures c.len-len.ensures.is
    c.if-count_place-len.false c.len-len.type_inv in
    omega (arith, small)

pub overflow_add-result-2 : goal.overflow_add-result-2
overflow_add-result-2 c =
    let small = within_64 c.args.values.now c.args.at c.count_at-curves.result c.len-len.result c.requires c.count_at-curves.ensures c.len-len.ensures.is
    c.if-count_place-len.false c.len-len.type_inv in
    omega (arith, small)

pub returns : goal.returns
returns c =
    counted_ends c.args.values.now c.args.at c.count_at-curves.result c.count_at-curves.ensures
    (within_64 c.args.values.now c.args.at c.count_at-curves.result c.len-len.result c.requires c.count_at-curves.ensures c.len-len.ensures.is
    c.if-count_place-len.false c.len-len.type_inv)
