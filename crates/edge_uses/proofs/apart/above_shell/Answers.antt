use Rattle.std.proofs.Common.{sym, ◌∙◌, ap, max, arith}
use Rattle.edge_uses.specs.Before.{above_of, face_vertices}
use Rattle.edge_uses.proofs.Above.{above_more, above_done, shell_flat}
use Rattle.edge_uses.proofs.apart.above_shell.Goals as goal

pub faces-preserved : goal.faces-preserved
faces-preserved c =
    above_more (face_vertices c.args.solid.now) c.as_slice-faces.result.now c.index-faces-i.result c.faces.i c.faces.above c.above_face-above.result _
    c.faces-test.true (sym c.index-faces-i.is) c.faces.invariant c.above_face-above.ensures

pub returns : goal.returns
returns c =
    above_done (face_vertices c.args.solid.now) c.as_slice-faces.result.now c.faces.i c.faces.above _ (omega arith) c.faces.invariant
    ∙ ap (λ vs. max c.args.from (above_of vs)) (sym (shell_flat c.args.solid.now c.args.shell.now))
