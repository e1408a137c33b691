use Rattle.std.proofs.Common.{◌≡◌, ◌∙◌, ◌∷◌, ap, arith, of_z, rules, sym, take, to_z, w64}
use Rattle.std.specs.List.{sum_by}
use Rattle.named_sizes.specs.Sizes.{capped, shell_size}
use Rattle.named_sizes.proofs.Sums.{capped_zero, is_there, sized, sum_more, zero_within}
use Rattle.named_sizes.proofs.records.shells_size.Goals as goal

pub shells-init : goal.shells-init
shells-init c = record { within = zero_within; sum = capped_zero }

pub unwrap-item-requires : goal.unwrap-item-requires
unwrap-item-requires c = is_there (c.args.record.now.outer ∷ c.args.record.now.voids) c.shells.i c.item.result c.item.ensures (omega (arith, c.shells-test.true, c.len-i-end.ensures))

pub shells-preserved : goal.shells-preserved
shells-preserved c =
    let number : to_z w64 (of_z w64 c.unwrap-item.result.0) ≡ c.unwrap-item.result.0 = search rules in
    record {
      within = c.add-total.ensures.within;
      sum = c.add-total.ensures.is (sum_by (sized (shell_size c.args.file.now)) (take c.shells.i (c.args.record.now.outer ∷ c.args.record.now.voids))) (shell_size c.args.file.now c.unwrap-item.result.0) c.shells.invariant.sum
          (c.known_shell.ensures.is ∙ ap (λ z. capped (shell_size c.args.file.now z)) number)
          ∙ ap capped (sum_more (sized (shell_size c.args.file.now)) (c.args.record.now.outer ∷ c.args.record.now.voids) c.shells.i c.unwrap-item.result (sym c.item.ensures ∙ c.unwrap-item.ensures));
    }
