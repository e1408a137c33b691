use Rattle.std.proofs.Common.{sym, ap, ◌∙◌, rules}
use mir.Val.{SFits}
use mir.Syntax.{w64}
use Rattle.iges_base.specs.Word.{column_number}
use Rattle.iges_directory.proofs.InColumns.{some_fits, read_fits, field_short}
use Rattle.iges_directory.proofs.field.number_in.Goals as goal

pub returns-in-Some-clause-fits : goal.returns-in-Some-clause-fits
returns-in-Some-clause-fits c =
    let fits : SFits w64 c.in-Some.number = search rules in
    read_fits c.args.k c.args.line.now _ fits (ap column_number (sym c.word_in.ensures) ∙ c.in-Some.ensures {u = tt})

pub returns-in-None-clause-fits : goal.returns-in-None-clause-fits
returns-in-None-clause-fits c = some_fits _ c.longer_number.result (field_short c.args.k c.args.line.now) c.longer_number.ensures
