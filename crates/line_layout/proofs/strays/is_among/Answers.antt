use Rattle.std.proofs.Common.{◌∙◌}
use Rattle.line_layout.proofs.Shuffled.{is_among}
use Rattle.line_layout.proofs.strays.is_among.Goals as goal

pub returns : goal.returns
returns c = c.is_ok.ensures.value ∙ is_among c.args.numbers.now c.args.n c.binary_search.result c.binary_search.ensures.position c.requires
