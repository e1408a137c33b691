use Rattle.std.proofs.Common.{sym, ◌∙◌}
use Rattle.line_layout.proofs.Looping.{few_good}
use Rattle.line_layout.proofs.relaying.take_piece.Goals as goal

pub put_row-requires-clause-next : goal.put_row-requires-clause-next
put_row-requires-clause-next c = few_good c.args.counts c.args.piece.now c.in-Good.section (sym c.requires.judged ∙ c.in-Good.is)

pub counted-requires : goal.counted-requires
counted-requires c = few_good c.args.counts c.args.piece.now c.in-Good.section (sym c.requires.judged ∙ c.in-Good.is)
