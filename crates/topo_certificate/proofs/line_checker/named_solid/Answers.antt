use Rattle.topo_certificate.proofs.Checking.{solid_told, not_spelled_names_none}
use Rattle.topo_certificate.proofs.line_checker.named_solid.Goals as goal

pub returns-in-Spelled : goal.returns-in-Spelled
returns-in-Spelled c = solid_told c.args.limit c.args.line.now c.in-Spelled.words c.solid_in.result c.in-Spelled.ensures c.solid_in.ensures

pub returns-in-Misspelt : goal.returns-in-Misspelt
returns-in-Misspelt c = not_spelled_names_none c.args.limit c.args.line.now c.judge.result c.judge.ensures c.in-Misspelt.is
