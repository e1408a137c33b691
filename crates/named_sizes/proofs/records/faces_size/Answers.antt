use Rattle.std.proofs.Common.{◌≡◌, ◌∙◌, ◌∷◌, ap, arith, of_z, rules, sym, take, to_z, w64}
use Rattle.std.specs.List.{sum_by}
use Rattle.named_sizes.specs.Sizes.{capped, face_size}
use Rattle.named_sizes.proofs.Sums.{capped_zero, is_there, sized, sum_more, zero_within}
use Rattle.named_sizes.proofs.records.faces_size.Goals as goal

pub faces-init : goal.faces-init
faces-init c = record { within = zero_within; sum = capped_zero }

pub unwrap-item-requires : goal.unwrap-item-requires
unwrap-item-requires c = is_there c.args.record.now c.faces.i c.item.result c.item.ensures (omega (arith, c.faces-test.true, c.len-i-end.ensures))

pub faces-preserved : goal.faces-preserved
faces-preserved c =
    let number : to_z w64 (of_z w64 c.unwrap-item.result.0) ≡ c.unwrap-item.result.0 = search rules in
    record {
      within = c.add-total.ensures.within;
      sum = c.add-total.ensures.is (sum_by (sized (face_size c.args.file.now)) (take c.faces.i c.args.record.now)) (face_size c.args.file.now c.unwrap-item.result.0) c.faces.invariant.sum
          (c.known_face.ensures.is ∙ ap (λ z. capped (face_size c.args.file.now z)) number)
          ∙ ap capped (sum_more (sized (face_size c.args.file.now)) c.args.record.now c.faces.i c.unwrap-item.result (sym c.item.ensures ∙ c.unwrap-item.ensures));
    }
