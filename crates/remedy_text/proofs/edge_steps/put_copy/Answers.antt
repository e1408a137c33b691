use Rattle.std.proofs.Common.{codes}
use Rattle.where_text.proofs.Steps.{three_pieces}
use Rattle.spelled_solid.specs.Words.{vertex_named}
use Rattle.remedy_text.specs.Lines.{copy_item}
use Rattle.remedy_text.proofs.edge_steps.put_copy.Goals as goal

pub returns : goal.returns
unfolding copy_item
returns c =
    let v = c.args.view.now in
    three_pieces _ c.args.out.now _ _ _ (codes "copy vertex") (vertex_named v.file.now v.solid.now c.args.vertex.like.0) (codes "\n") c.in_ok-put.ensures.ok
    c.in_ok-put_vertex.ensures c.put-2.ensures.ok
