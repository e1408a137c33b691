use Rattle.std.proofs.Common.{sym, ◌∙◌}
use Rattle.record_numbers.proofs.ToldLemmas.{faulty_own, own_is}
use Rattle.record_numbers.proofs.told.faultless_own.Goals as goal

pub returns-then-not-branch : goal.returns-then-not-branch
returns-then-not-branch c = faulty_own c.args.file.now (c.args.entry.now, c.args.values.now) (sym c.in_ok-is_faultless.ensures ∙ c.if-not-branch.true)

pub returns-in-Ok : goal.returns-in-Ok
returns-in-Ok c =
    own_is c.args.file.now (c.args.entry.now, c.args.values.now) c.in-Ok.shape.own (sym c.in_ok-is_faultless.ensures ∙ c.if-not-branch.false) c.in-Ok.ensures.ok.own_values
