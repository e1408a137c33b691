use Rattle.std.proofs.Common.{arith}
use Rattle.iges_fields.proofs.ItemFronts.{no_text_at_end, no_text_with_points, no_text_without_digits, no_text_without_H, text_begins}
use Rattle.iges_fields.proofs.item.text_content.Goals as goal

pub returns-then-mantissa-gt0 : goal.returns-then-mantissa-gt0
returns-then-mantissa-gt0 c = no_text_with_points c.args.body.now c.args.mantissa.now c.requires c.if-mantissa-gt0.true

pub returns-then-mantissa-eq0 : goal.returns-then-mantissa-eq0
returns-then-mantissa-eq0 c = no_text_without_digits c.args.body.now c.args.mantissa.now c.requires c.if-mantissa-eq0.true

pub returns-in_default : goal.returns-in_default
returns-in_default c = no_text_at_end c.args.body.now c.args.mantissa.now c.requires
    (omega (arith, c.if-mantissa-gt0.false)) _ c.split_at.ensures.back c.in_default.len_below

pub returns-then-first-ne72 : goal.returns-then-first-ne72
returns-then-first-ne72 c =
    no_text_without_H c.args.body.now c.args.mantissa.now c.requires
    (omega (arith, c.if-mantissa-gt0.false)) _ c.split_at.ensures.back c.in-len1-up.len_at_least c.if-first-ne72.true

pub returns : goal.returns
returns c =
    text_begins c.args.body.now c.args.mantissa.now c.requires (omega (arith, c.if-mantissa-gt0.false)) _ c.split_at.ensures.back
    (omega (arith, c.if-mantissa-eq0.false)) c.in-len1-up.len_at_least
    c.if-first-ne72.false
