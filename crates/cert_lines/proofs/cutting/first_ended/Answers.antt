use Rattle.std.proofs.Common.{refl}
use Rattle.cert_lines.proofs.Ends.{all_in_line, ends_first}
use Rattle.cert_lines.proofs.cutting.first_ended.Goals as goal

pub returns-in-Some : goal.returns-in-Some
returns-in-Some c = ends_first c.args.text.now c.in-Some.end _ _ _ (c.in-Some.ensures {u = tt}) refl refl refl

pub returns-in-None : goal.returns-in-None
returns-in-None c = all_in_line c.args.text.now (c.in-None.ensures {u = tt})
