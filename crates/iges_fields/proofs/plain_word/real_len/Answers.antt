use Rattle.std.proofs.Common.{sym, ap, ◌∙◌, refl, arith}
use Rattle.iges_fields.specs.FreeText.{is_delimiter_of}
use Rattle.iges_fields.proofs.PlainWords.{real_within, real_stop, real_is}
use Rattle.iges_fields.proofs.plain_word.real_len.Goals.{else-whole-eq0-via-then-whole-eq0+else-part-eq0, else-whole-eq0-via-else-whole-eq0}
use Rattle.iges_fields.proofs.plain_word.real_len.Goals as goal

pub overflow_sub-result : goal.overflow_sub-result
overflow_sub-result c =
    let within = real_within c.args.body.now c.args.whole c.args.after.now c.requires.digits c.requires.behind c.part_len-part.result
    c.part_len-part.ensures.within c.part_len-part.ensures.all c.split_at.result.1.now
    c.split_at.ensures.back c.power_len.result c.power_len.ensures.power c.split_at-2.result.1.now c.split_at-2.ensures.back in
    omega (arith, within)

pub returns : goal.returns
returns c =
    let within = real_within c.args.body.now c.args.whole c.args.after.now c.requires.digits c.requires.behind c.part_len-part.result
    c.part_len-part.ensures.within c.part_len-part.ensures.all c.split_at.result.1.now
    c.split_at.ensures.back c.power_len.result c.power_len.ensures.power c.split_at-2.result.1.now c.split_at-2.ensures.back in
    let real = real_is c.args.body.now c.args.whole c.args.after.now c.requires.digits c.requires.behind c.part_len-part.result c.part_len-part.ensures.within
    c.part_len-part.ensures.all c.split_at.result.1.now
    c.split_at.ensures.back c.power_len.result c.power_len.ensures.power c.split_at-2.result.1.now c.split_at-2.ensures.back in
    record {
      within = omega (arith, within, c.in-len1-up.len_at_least);
      spells = (
        real (elim c.else-whole-eq0.branch [
          | else-whole-eq0-via-then-whole-eq0+else-part-eq0 w ↦ λ e f. w.if-part-eq0.false f
          | else-whole-eq0-via-else-whole-eq0 w ↦ λ e f. w.if-whole-eq0.false e
        ]),
        refl,
      );
      stop =
          ap (is_delimiter_of c.args.delims.now) (real_stop c.args.body.now c.args.whole c.args.after.now c.requires.digits c.requires.behind
          c.part_len-part.result c.part_len-part.ensures.within c.part_len-part.ensures.all c.split_at.result.1.now
          c.split_at.ensures.back c.power_len.result c.power_len.ensures.power c.split_at-2.result.1.now c.split_at-2.ensures.back c.in-len1-up.len_at_least)
          ∙ (sym c.has.ensures ∙ c.if-not-has.false);
    }
