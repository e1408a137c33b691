use Rattle.std.proofs.Common.{sym, ◌∙◌, ap, length, drop}
use Rattle.brep_lists.proofs.Stride.{items_length, vertex_read}
use Rattle.brep_lists.proofs.vertex_list.VertexList.len.Goals as goal

pub returns : goal.returns
returns c =
    c.self.invariant.counted ∙ sym (items_length vertex_read 3 _ (drop 1 c.self.inside.values.now))
    ∙ ap length c.self.view_is
