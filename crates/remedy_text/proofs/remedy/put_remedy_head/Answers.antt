use Rattle.std.proofs.Common.{◌+◌, codes}
use Rattle.remedy_text.specs.Lines.{number_words}
use Rattle.remedy_text.specs.Remedies.{explanation, remedy_head}
use Rattle.remedy_text.proofs.Steps.{four_pieces}
use Rattle.remedy_text.proofs.remedy.put_remedy_head.Goals as goal

pub returns : goal.returns
unfolding remedy_head
returns c =
    let h = c.args.heading in
    four_pieces _ c.args.out.now _ _ _ _ (number_words (codes "hint remedy") h.number) (number_words (codes " shell") (c.args.shell.0 + 1)) (codes "\n")
    (explanation h.explained) c.in_ok-put_count.ensures c.in_ok-put_count-2.ensures c.in_ok-put.ensures.ok c.put_explanation.ensures
