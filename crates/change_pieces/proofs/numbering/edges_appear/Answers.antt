use Rattle.std.proofs.Common.{arith, sym, ◌∙◌}
use Rattle.solid_data.specs.SolidData.{edge_used}
use Rattle.change_pieces.proofs.Appearing.{appear_next, appear_none, appear_done}
use Rattle.change_pieces.proofs.numbering.edges_appear.Goals as goal

pub returns-in-None : goal.returns-in-None
returns-in-None c = appear_none edge_used c.args.uses.now c.uses.i _ c.uses.count _ c.item_at.ensures c.uses.invariant (sym c.with_edge.ensures ∙ c.in-None.is)

pub uses-preserved : goal.uses-preserved
uses-preserved c = appear_next edge_used c.args.uses.now c.uses.i _ c.uses.count _ _ c.item_at.ensures c.uses.invariant (sym c.with_edge.ensures ∙ c.in-Some.is)

pub returns : goal.returns
returns c = appear_done edge_used c.args.uses.now c.uses.i c.uses.count _ (omega arith) c.uses.invariant
