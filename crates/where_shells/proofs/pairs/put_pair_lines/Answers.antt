use Rattle.std.proofs.Common.{ap, take}
use Rattle.std.proofs.lemmas.Result.{on_ok_weaker}
use Rattle.where_shells.proofs.Paragraphs.{pair_told}
use Rattle.where_shells.proofs.pairs.put_pair_lines.Goals as goal

pub returns-clause-text : goal.returns-clause-text
returns-clause-text c =
    let v = c.args.view.now in
    let k = c.args.known.now in
    on_ok_weaker c.put_more_items.result
    (λ h. pair_told v.listing v.file.now v.solid.now v.at.0 k.flag k.rows.now k.places.items c.args.unpaired.now
    (take c.count-count.result c.args.unpaired.now) c.count-count.result
    c.args.page.now.out c.put_rule.new.out c.put_usage_words.new.out c.put_rule_sentence.new.out c.put_edges.new.page.out c.put_more_items.new.out
    c.count-count.ensures (ap (λ n. take n c.args.unpaired.now) c.count-count.ensures)
    c.in_ok-put_rule.ensures c.in_ok-put_usage_words.ensures c.in_ok-put_rule_sentence.ensures.text c.in_ok-put_edges.ensures.text h)
    c.put_more_items.ensures.text
