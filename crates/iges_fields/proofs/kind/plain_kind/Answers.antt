use Rattle.std.proofs.Common.{sym, ◌∙◌, arith}
use Rattle.iges_fields.proofs.WordKinds.{neither, number_value, plain_real, whole_number}
use Rattle.iges_fields.proofs.kind.plain_kind.Goals as goal

pub returns-then-not-is_valid : goal.returns-then-not-is_valid
returns-then-not-is_valid c = neither c.args.word.now c.args.mantissa.now c.requires.mantissa c.requires.all
    (sym c.if-not-is_valid.true ∙ c.is_valid.ensures _ c.requires.mantissa)

pub whole_kind-requires-clause-word : goal.whole_kind-requires-clause-word
whole_kind-requires-clause-word c =
    whole_number c.args.word.now c.args.mantissa.now c.requires.mantissa c.requires.all
    (sym c.if-not-is_valid.false ∙ c.is_valid.ensures _ c.requires.mantissa) c.if-mantissa-eq0.true

pub whole_kind-requires-clause-value : goal.whole_kind-requires-clause-value
whole_kind-requires-clause-value c = number_value c.args.word.now c.args.mantissa.now c.requires.mantissa c.requires.all c.if-mantissa-eq0.true

pub returns : goal.returns
returns c =
    plain_real c.args.word.now c.args.mantissa.now c.requires.mantissa c.requires.all (sym c.if-not-is_valid.false ∙ c.is_valid.ensures _ c.requires.mantissa)
    (omega (arith, c.if-mantissa-eq0.false))
