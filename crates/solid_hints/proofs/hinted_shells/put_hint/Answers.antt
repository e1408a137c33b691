use Rattle.std.proofs.lemmas.Result.{IfOk-weaker}
use Rattle.solid_hints.proofs.ToldHints.{flags_told, hints_told}
use Rattle.solid_hints.proofs.hinted_shells.put_hint.Goals as goal

pub returns-then-branch : goal.returns-then-branch
returns-then-branch c =
    IfOk-weaker c.put_flags.result _ _
    (λ u last. flags_told c.args.view.now.listing c.args.view.now.file.now c.args.view.now.solid.now c.args.view.now.all.now c.args.shells.now
    c.pair_fails.result c.in_ok-tells_flags.field-0 c.unset_flags-unset.result c.args.out.now c.put_flags.new.out c.args.named.now
    c.unset_flags-unset.ensures c.pair_fails.ensures c.if-branch.true c.in_ok-tells_flags.ensures last)
    c.put_flags.ensures

pub returns : goal.returns
returns c =
    IfOk-weaker c.put_known.result _ _
    (λ u last. hints_told c.args.view.now.listing c.args.view.now.file.now c.args.view.now.solid.now c.args.view.now.all.now c.args.shells.now
    c.pair_fails.result c.in_ok-tells_flags.field-0 c.unset_flags-unset.result c.args.out.now c.put_known.new.out c.args.named.now c.put_known.new.named
    c.unset_flags-unset.ensures c.pair_fails.ensures c.if-branch.false c.in_ok-tells_flags.ensures last)
    c.put_known.ensures
