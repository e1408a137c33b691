use Rattle.std.proofs.Common.{subst}
use Rattle.solid_data.specs.Ranges.{IsSpanOf}
use Rattle.edge_uses.proofs.table.Rows.vertex_span.Goals as goal

pub returns : goal.returns
returns c = subst (IsSpanOf c.span_of.result) c.vertex_slice.ensures.items c.span_of.ensures.span
