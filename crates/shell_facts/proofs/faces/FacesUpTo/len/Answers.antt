use Rattle.std.proofs.Common.{◌∙◌, ap, sym, length}
use Rattle.shell_facts.proofs.UpTo.{count_listed}
use Rattle.shell_facts.proofs.faces.FacesUpTo.len.Goals as goal

pub returns : goal.returns
returns c = sym (count_listed c.self.inside.touches.now c.self.inside.places.now c.self.invariant) ∙ ap length c.self.view_is
