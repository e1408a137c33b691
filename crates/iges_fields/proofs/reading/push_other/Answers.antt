use Rattle.std.proofs.Common.{take}
use Rattle.iges_fields.specs.Fronts.{value_of}
use Rattle.iges_fields.proofs.PlainWords.{front_reads}
use Rattle.iges_fields.proofs.reading.push_other.Goals as goal

pub returns-clause-ok : goal.returns-clause-ok
returns-clause-ok c =
    let is = c.in-Some.ensures {u = tt} in (
      value_of c.in-Some.word (take c.in-Some.len c.in-Some.body.now),
      front_reads c.args.delims.now c.requires.permitted c.args.at c.args.text.now c.in-Some.body.now is.1 c.in-Some.word c.in-Some.len is.0
          c.split_at.result.1.now c.split_at.ensures.back,
      c.in_ok-push_word.ensures {u = tt},
    )
