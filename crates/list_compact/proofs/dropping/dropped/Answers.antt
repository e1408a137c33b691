use Rattle.list_compact.proofs.Emptied.{all_dropped}
use Rattle.list_compact.proofs.dropping.dropped.Goals as goal

pub returns-in-Ok : goal.returns-in-Ok
returns-in-Ok c = all_dropped c.args.file c.dropped_entries.new.file c.in-Ok.new c.take_front.new.self c.in-Ok.ensures.start c.in-Ok.ensures.global
    c.in-Ok.ensures.entries c.take_front.ensures
