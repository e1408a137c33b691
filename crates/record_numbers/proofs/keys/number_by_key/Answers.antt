use Rattle.std.proofs.Common.{sym, ◌∙◌}
use Rattle.record_numbers.proofs.KeyMaps.{puts_keeps, puts_numbers}
use Rattle.record_numbers.proofs.keys.number_by_key.Goals as goal

pub returns-in_ok-insert-in-None-clause-kept : goal.returns-in_ok-insert-in-None-clause-kept
returns-in_ok-insert-in-None-clause-kept c h =
    puts_keeps c.args.keys.now c.insert.new.self c.args.key.items c.in_ok-x-in-None.x c.in_ok-insert-in-None.ensures.updates.0 (sym c.in-None.ensures)

pub returns-in_ok-insert-in-None-clause-numbers : goal.returns-in_ok-insert-in-None-clause-numbers
returns-in_ok-insert-in-None-clause-numbers c h =
    puts_numbers c.args.keys.now c.insert.new.self c.args.key.items c.in_ok-x-in-None.x c.in_ok-insert-in-None.ensures.updates.0 _
    (c.in_ok-insert-in-None.ensures.old ∙ sym c.in-None.ensures) c.in_ok-insert-in-None.ensures.len c.in_ok-x-in-None.ensures h
