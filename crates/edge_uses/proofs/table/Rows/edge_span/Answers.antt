use Rattle.std.proofs.Common.{subst}
use Rattle.solid_data.specs.Ranges.{IsSpanOf}
use Rattle.edge_uses.proofs.table.Rows.edge_span.Goals as goal

pub returns-clause-span : goal.returns-clause-span
returns-clause-span c = subst (IsSpanOf c.span_of.result) c.edge_slice.ensures.items c.span_of.ensures.span
