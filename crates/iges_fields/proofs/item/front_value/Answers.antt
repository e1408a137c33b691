use Rattle.std.proofs.Common.{List, ℕ, length, ap, subst, ◌∙◌}
use Rattle.iges_fields.specs.Gives.{Gives}
use Rattle.iges_fields.specs.Reading.{read_word}
use Rattle.iges_base.specs.RealParts.{IsMantissa}
use Rattle.iges_fields.proofs.ItemFronts.{plain_trimmed, plain_unsigned}
use Rattle.iges_fields.proofs.item.front_value.Goals as goal

pub plain_kind-requires-clause-mantissa : goal.plain_kind-requires-clause-mantissa
plain_kind-requires-clause-mantissa c = subst (λ (w : List ℕ). IsMantissa w c.args.mantissa.now)
    (plain_unsigned c.args.front.now c.args.mantissa.now c.requires c.if-mantissa-front.true) c.requires

pub plain_kind-requires-clause-all : goal.plain_kind-requires-clause-all
plain_kind-requires-clause-all c = c.if-mantissa-front.true ∙ ap (length {A = ℕ})
    (plain_unsigned c.args.front.now c.args.mantissa.now c.requires c.if-mantissa-front.true)

pub returns-then-mantissa-front : goal.returns-then-mantissa-front
returns-then-mantissa-front c =
    subst (λ (w : List ℕ). Gives (λ v. v) c.word_value.result (read_word c.args.delims.now c.args.text.now w))
    (plain_trimmed c.args.front.now c.args.mantissa.now c.requires c.if-mantissa-front.true) c.word_value.ensures
