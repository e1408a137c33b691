use Rattle.std.proofs.Common.{◌∙◌, ◌++◌, ap, codes, rules, w64}
use Rattle.std.proofs.lemmas.Int.{to_z-of_z}
use mir.Val.{SFits}
use Rattle.where_text.proofs.Steps.{three_pieces}
use Rattle.where_text.specs.Spelled.{signed, space_word}
use Rattle.where_unjudged.specs.KindHints.{form_line}
use Rattle.where_unjudged.proofs.kind_hints.put_form_line.Goals as goal

pub returns : goal.returns
unfolding form_line
returns c =
    let fits : SFits w64 c.args.form = search rules in
    let same = to_z-of_z w64 c.args.form fits in
    three_pieces c.put-2.result c.args.out.now c.put.new.self c.put_signed.new.out c.put-2.new.self (codes "hint other-form form")
    (space_word (signed c.args.form)) (codes "\n") c.in_ok-put.ensures.ok
    (c.in_ok-put_signed.ensures.text ∙ ap (λ z. c.put.new.self ++ space_word (signed z)) same) c.put-2.ensures.ok
