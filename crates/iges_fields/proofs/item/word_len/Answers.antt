use Rattle.std.proofs.Common.{ℕ, not, ap, ◌+◌, ◌∙◌, arith}
use Rattle.std.proofs.lemmas.List.Sums.{prefix_len-le-length}
use Rattle.iges_fields.specs.FreeText.{is_delimiter_of}
use Rattle.iges_fields.proofs.ItemFronts.{end_behind}
use Rattle.iges_fields.proofs.item.word_len.Goals as goal

pub overflow_add-result : goal.overflow_add-result
overflow_add-result c =
    omega (
      arith,
      c.len_before.ensures.len,
      prefix_len-le-length (λ (b : ℕ). not (is_delimiter_of c.args.delims.now b)) c.split_at.result.1.now,
      c.split_at.ensures.back_len,
    )

pub returns-clause-len : goal.returns-clause-len
returns-clause-len c =
    ap (λ (n : ℕ). c.args.mantissa.now.len + n) c.len_before.ensures.len
    ∙ end_behind c.args.body.now c.args.mantissa.now c.requires c.args.delims.now c.len_before.ensures.permitted _ c.split_at.ensures.back
