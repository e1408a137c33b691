use Rattle.std.proofs.Common.{arith}
use Rattle.spelled_solid.proofs.Rows.{row_set}
use Rattle.spelled_solid.proofs.tables.keep.Goals as goal

pub returns : goal.returns
returns c told is h =
    row_set told c.make_room.new.words.items c.args.n c.args.text (omega (arith, c.in_ok-make_room.ensures.room)) is (c.in_ok-make_room.ensures.words told h)
