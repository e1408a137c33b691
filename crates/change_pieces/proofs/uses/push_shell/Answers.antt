use Rattle.std.specs.Prelude.{◌++◌, flat_map}
use Rattle.std.proofs.Common.{sym, ◌∙◌, ap, arith}
use Rattle.std.proofs.lemmas.List.{append-nil, drop_all}
use Rattle.change_pieces.specs.Filled.{face_uses}
use Rattle.change_pieces.proofs.Flat.{uses_flat}
use Rattle.change_pieces.proofs.uses.push_shell.Goals as goal

pub returns : goal.returns
returns c =
    sym (append-nil c.faces.out.items)
    ∙ (sym (ap (λ fs. c.faces.out.items ++ flat_map face_uses fs) (drop_all c.faces.i c.as_slice-faces.result.now (omega arith)))
    ∙ (c.faces.invariant ∙ ap (λ us. c.args.out.now.items ++ us) (ap (flat_map face_uses) c.as_slice-faces.ensures ∙ sym (uses_flat c.args.shell.now))))
