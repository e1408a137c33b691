use Rattle.std.proofs.Common.{◌∙◌, sym, length}
use Rattle.std.proofs.lemmas.Bool.{eqb-true}
use Rattle.list_compact.proofs.AllMarked.{row_marked}
use Rattle.list_compact.proofs.marks.are_marked.Goals as goal

pub returns : goal.returns
returns c t = row_marked c.args.row.now (sym c.count_marks.ensures.is ∙ eqb-true c.count_marks.result (length c.args.row.now) t)
