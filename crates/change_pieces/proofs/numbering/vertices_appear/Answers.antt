use Rattle.std.proofs.Common.{arith, sym, ◌∙◌, refl}
use Rattle.solid_data.specs.SolidData.{vertices_used}
use Rattle.change_pieces.proofs.Appearing.{appear_next, appear_none, appear_done}
use Rattle.change_pieces.proofs.numbering.vertices_appear.Goals as goal

pub uses-init : goal.uses-init
uses-init c = λ s e. refl

pub returns-in-None : goal.returns-in-None
returns-in-None c = λ s e.
    appear_none (vertices_used s) c.args.uses.now c.uses.i _ c.uses.count _ c.item_at.ensures (c.uses.invariant s e) (sym (c.with_vertices.ensures s e) ∙ c.in-None.is)

pub uses-preserved : goal.uses-preserved
uses-preserved c = λ s e.
    appear_next (vertices_used s) c.args.uses.now c.uses.i _ c.uses.count _ _ c.item_at.ensures (c.uses.invariant s e) (sym (c.with_vertices.ensures s e) ∙ c.in-Some.is)

pub returns : goal.returns
returns c = λ s e. appear_done (vertices_used s) c.args.uses.now c.uses.i c.uses.count _ (omega arith) (c.uses.invariant s e)
