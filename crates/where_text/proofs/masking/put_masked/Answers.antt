use Rattle.std.proofs.Common.{◌∷◌, [], ◌++◌, ap, ◌∙◌, refl}
use Rattle.where_text.specs.Spelled.{masked_byte}
use Rattle.where_text.proofs.Steps.{mapped_more}
use Rattle.where_text.proofs.masking.put_masked.Goals as goal

pub bytes-preserved : goal.bytes-preserved
bytes-preserved c =
    mapped_more masked_byte c.args.bytes.now c.bytes.byte-index _ c.bytes.out c.put.new.self _ c.bytes-test.true refl c.bytes.invariant
    (c.in_ok-put.ensures.ok ∙ ap (λ b. c.bytes.out ++ b ∷ []) c.masked_byte.ensures)
