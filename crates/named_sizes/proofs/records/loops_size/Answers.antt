use Rattle.std.proofs.Common.{◌≡◌, ◌∙◌, ◌∷◌, ap, arith, of_z, rules, sym, take, to_z, w64}
use Rattle.std.specs.List.{sum_by}
use Rattle.named_sizes.specs.Sizes.{capped, loop_size}
use Rattle.named_sizes.proofs.Sums.{capped_zero, is_there, sum_more, zero_within}
use Rattle.named_sizes.proofs.records.loops_size.Goals as goal

pub loops-init : goal.loops-init
loops-init c = record { within = zero_within; sum = capped_zero }

pub unwrap-item-requires : goal.unwrap-item-requires
unwrap-item-requires c = is_there c.args.record.now.loops c.loops.i c.item.result c.item.ensures (omega (arith, c.loops-test.true, c.len-i-end.ensures))

pub loops-preserved : goal.loops-preserved
loops-preserved c =
    let number : to_z w64 (of_z w64 c.unwrap-item.result) ≡ c.unwrap-item.result = search rules in
    record {
      within = c.add-total.ensures.within;
      sum = c.add-total.ensures.is (sum_by (loop_size c.args.file.now) (take c.loops.i c.args.record.now.loops)) (loop_size c.args.file.now c.unwrap-item.result) c.loops.invariant.sum
          (c.loop_size.ensures.is ∙ ap (λ z. capped (loop_size c.args.file.now z)) number)
          ∙ ap capped (sum_more (loop_size c.args.file.now) c.args.record.now.loops c.loops.i c.unwrap-item.result (sym c.item.ensures ∙ c.unwrap-item.ensures));
    }
