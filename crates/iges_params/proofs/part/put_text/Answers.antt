use Rattle.std.proofs.Common.{◌++◌, ℕ, List, sym, ap, ◌∙◌}
use Rattle.iges_base.proofs.InLines.{both_in_line}
use Rattle.iges_params.proofs.Joined.{joined_more}
use Rattle.iges_params.proofs.part.put_text.Goals as goal

pub lines-preserved : goal.lines-preserved
lines-preserved c =
    let put = c.in_ok-extend_from_slice.ensures {u = tt} in
    let line = c.in-Some.ensures {u = tt} in
    record {
      joined = put.items ∙ ap (λ (t : List ℕ). c.lines.text.items ++ t) c.columns.ensures.is ∙ joined_more c.args.width c.args.from c.lines.i _
          c.in-Some.line.now c.lines.text.items c.lines.invariant.joined (sym line.line);
      in_line = rw put.items (both_in_line c.lines.text.items c.columns.result.now c.lines.invariant.in_line (c.columns.ensures.in_line line.in_line));
    }
