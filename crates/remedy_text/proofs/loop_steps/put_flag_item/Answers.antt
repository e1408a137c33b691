use Rattle.std.proofs.Common.{◌++◌, ◌∙◌, ap, codes}
use Rattle.remedy_text.specs.Lines.{flag_item, flag_number, number_words}
use Rattle.remedy_text.proofs.Steps.{four_pieces}
use Rattle.remedy_text.proofs.loop_steps.put_flag_item.Goals as goal

pub returns : goal.returns
unfolding flag_item
returns c =
    let x = c.args.item in
    four_pieces _ c.args.out.now _ _ _ _ (number_words (codes "change loop") x.walk.0) (number_words (codes " tuple") x.tuple)
    (number_words (codes " flag") (flag_number x.flag)) (codes "\n") c.in_ok-put_count.ensures c.in_ok-put_count-2.ensures
    (c.in_ok-put_count-3.ensures ∙ ap (λ n. c.put_count-2.new.out ++ number_words (codes " flag") n) c.flag_number.ensures) c.put.ensures.ok
