use Rattle.std.proofs.Common.{sym, ap, ◌∙◌}
use Rattle.topo_certificate.specs.Upgraded.{starts_with}
use Rattle.topo_certificate.proofs.UpgradedText.{starts_so, starts_not}
use Rattle.topo_certificate.proofs.upgrading.begins.Goals as goal

pub returns-in-Some : goal.returns-in-Some
returns-in-Some c = sym (ap (starts_with c.args.word.now) c.in-Some.ensures ∙ starts_so c.args.word.now c.in-Some.field-0.now)

pub returns-in-None : goal.returns-in-None
returns-in-None c = starts_not c.args.word.now c.args.text.now c.in-None.ensures
