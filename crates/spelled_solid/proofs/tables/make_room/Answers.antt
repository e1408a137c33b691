use Rattle.spelled_solid.proofs.Rows.{row_pushed}
use Rattle.spelled_solid.proofs.tables.make_room.Goals as goal

pub rows-preserved : goal.rows-preserved
rows-preserved c told h =
    row_pushed told c.rows.words.items c.push.new.self.items c.empty.result c.empty.ensures c.in_ok-push.ensures.items
    (c.rows.invariant told h)
