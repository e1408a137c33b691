use Rattle.list_compact.proofs.OneAnswer.{only_file, only_refusal, only_place}
use Rattle.list_compact.proofs.compacting.compact.Goals as goal

pub returns-clause-only : goal.returns-clause-only
returns-clause-only c new h = only_file c.args.file.now c.args.no.0 c.compacted.result new c.compacted.ensures.found c.compacted.ensures.fault h

pub returns-clause-only_refusal : goal.returns-clause-only_refusal
returns-clause-only_refusal c entity reason h = only_refusal c.args.file.now c.args.no.0 c.compacted.result entity reason c.compacted.ensures.found
    c.compacted.ensures.fault h

pub returns-clause-only_place : goal.returns-clause-only_place
returns-clause-only_place c x h = only_place c.args.file.now c.args.no.0 c.compacted.result x c.compacted.ensures.found c.compacted.ensures.fault h
