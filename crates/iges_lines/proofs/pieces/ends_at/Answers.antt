use Rattle.iges_lines.proofs.Cutting.{ends_here}
use Rattle.iges_lines.proofs.pieces.ends_at.Goals as goal

pub returns : goal.returns
returns c = ends_here c.args.bytes.now c.args.len c.has_lf_by_parts.result c.if-bytes-len.false c.if-bytes-len-ne10.false c.has_lf_by_parts.ensures
