use Rattle.std.proofs.Common.{sym, ◌∙◌, ap, length, drop}
use Rattle.brep_lists.specs.Record.{edge_read}
use Rattle.brep_lists.proofs.Stride.{items_length}
use Rattle.brep_lists.proofs.edge_list.EdgeList.len.Goals as goal

pub returns : goal.returns
returns c =
    c.self.invariant.counted ∙ sym (items_length edge_read 5 _ (drop 1 c.self.inside.values.now))
    ∙ ap length c.self.view_is
