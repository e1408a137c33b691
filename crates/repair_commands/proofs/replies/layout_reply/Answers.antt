use Rattle.std.proofs.Common.{sym}
use Rattle.repair_commands.proofs.OwedRows.{in_layout_owed, not_in_layout_owed}
use Rattle.repair_commands.proofs.SameBytes.{same_bytes, other_bytes}
use Rattle.repair_commands.proofs.replies.layout_reply.Goals as goal

pub returns-then-eq : goal.returns-then-eq
returns-then-eq c = in_layout_owed c.args.bytes.now c.args.text.now c.in_layout.result (same_bytes c.args.bytes.now c.args.text.now (sym c.if-eq.ensures))
    c.in_layout.ensures

pub returns : goal.returns
returns c = not_in_layout_owed c.args.bytes.now c.args.text.now c.not_in_layout.result (other_bytes c.args.bytes.now c.args.text.now (sym c.if-eq.ensures))
    c.not_in_layout.ensures
