use Rattle.std.proofs.Common.{sym, ◌∙◌, ap, length, drop}
use Rattle.brep_lists.specs.Record.{LoopTuple, curve_read}
use Rattle.brep_lists.proofs.Stride.{items_length}
use Rattle.brep_loops.proofs.loop_tuple.LoopTuple.curve_count.Goals as goal

pub returns : goal.returns
returns c =
    c.self.invariant.counted ∙ sym (items_length curve_read 2 _ (drop 5 (drop c.self.inside.at c.self.inside.values.now)))
    ∙ ap (λ (t : LoopTuple). length t.curves) c.self.view_is
