use Rattle.std.proofs.lemmas.Result.{IfOk-weaker}
use Rattle.where_solids.proofs.ToldSolids.{rest_written}
use Rattle.where_solids.proofs.telling.put_failing_shells.Goals as goal

pub returns : goal.returns
returns c =
    IfOk-weaker c.put_entities.result _ _
    (λ u last. rest_written c.args.view.now.listing c.args.view.now.file.now c.args.placed.now c.args.view.now.solid.now c.args.view.now.all.now
    c.args.failing.now c.shown_members-shells.result.now c.args.page.now.named c.put_hint.new.named c.put_paragraphs.new.page.named
    c.args.page.now.out c.put_lines.new.out c.put_hint.new.out c.put_paragraphs.new.page.out c.put_entities.new.out
    c.requires.file c.requires.failing c.shown_members-shells.ensures c.requires.named
    c.in_ok-put_lines.ensures c.in_ok-put_hint.ensures c.in_ok-put_paragraphs.ensures.paragraphs c.in_ok-put_paragraphs.ensures.named last)
    c.put_entities.ensures.text
