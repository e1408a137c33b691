use Rattle.std.proofs.Common.{◌∙◌, ap, sym, option_copied}
use Rattle.shell_facts.proofs.FaceSteps.{known_vertices}
use Rattle.shell_facts.proofs.faces.shell_at.Goals as goal

pub returns-clause-known : goal.returns-clause-known
returns-clause-known c = known_vertices c.args.solid.now c.args.k c.unwrap.result.now c.shell.ensures.numbered
    (sym c.shell.ensures.item ∙ ap option_copied c.unwrap.ensures)
