use Rattle.std.proofs.Common.{◌∙◌, sym, ap}
use Rattle.iges_params.proofs.Answers.{done}
use Rattle.iges_params.proofs.RecordPass.{unused_is, used_record, record_within}
use Rattle.iges_params.proofs.record.read_record.Goals as goal

pub returns-then-is_unused-clause-gives : goal.returns-then-is_unused-clause-gives
returns-then-is_unused-clause-gives c = unused_is c.args.params.now.above c.args.params.now.lines.now.param c.args.params.now.delims c.args.number c.args.placed.now
    (sym c.is_unused.ensures ∙ c.if-is_unused.true) ∙ ap done (sym c.new.ensures)

pub used_values-requires-clause-within : goal.used_values-requires-clause-within
used_values-requires-clause-within c = (record_within _ c.args.placed.now.entry.kind c.args.placed.now.first c.args.placed.now.count
    (sym c.is_unused.ensures ∙ c.if-is_unused.false) c.requires.record).1

pub returns-clause-gives : goal.returns-clause-gives
returns-clause-gives c = used_record c.args.params.now.above c.args.params.now.lines.now.param c.args.params.now.delims c.args.number c.args.placed.now c.used_values.result
    (sym c.is_unused.ensures ∙ c.if-is_unused.false) c.used_values.ensures.gives
