use Rattle.line_layout.proofs.Cutting.{ends_here}
use Rattle.line_layout.proofs.piece.ends_at.Goals as goal

pub returns : goal.returns
returns c = ends_here c.args.end c.args.bytes.now c.args.len c.has_byte_by_parts.result c.if-bytes-len.false c.if-bytes-len-2.false c.has_byte_by_parts.ensures
