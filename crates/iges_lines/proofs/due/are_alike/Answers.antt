use Rattle.std.proofs.Common.{rules, sym, ◌∙◌}
use Rattle.std.proofs.lemmas.Bool.{eqb-true}
use Rattle.iges_lines.proofs.Foretelling.{same_bytes}
use Rattle.iges_lines.proofs.due.are_alike.Goals as goal

pub returns : goal.returns
returns c = λ e. same_bytes c.args.left c.args.right (search rules) (search rules) (search rules) (search rules)
    (sym c.from_le_bytes.ensures ∙ eqb-true c.from_le_bytes.result c.from_le_bytes-2.result e ∙ c.from_le_bytes-2.ensures)
