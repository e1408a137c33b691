use Rattle.std.proofs.Common.{rules}
use mir.Val.{SFits}
use mir.Syntax.{w64}
use Rattle.iges_directory.proofs.InColumns.{held}
use Rattle.iges_directory.proofs.pair.second_half.Goals as goal

pub returns-clause-some : goal.returns-clause-some
returns-clause-some c =
    let fits_1 : SFits w64 c.in_ok-kind_again.field-0 = search rules in
    let fits_2 : SFits w64 c.in_ok-number_in.field-0 = search rules in
    let fits_3 : SFits w64 c.in_ok-number_in-2.field-0 = search rules in
    let fits_4 : SFits w64 c.in_ok-number_in-3.field-0 = search rules in
    let fits_5 : SFits w64 c.in_ok-number_in-4.field-0 = search rules in
    let fits_6 : SFits w64 c.in_ok-number_in-5.field-0 = search rules in
    record {
      kind = held 1 c.args.line.now _ fits_1 c.in_ok-kind_again.ensures;
      weight = held 2 c.args.line.now _ fits_2 c.in_ok-number_in.ensures.number;
      colour = held 3 c.args.line.now _ fits_3 c.in_ok-number_in-2.ensures.number;
      record_count = held 4 c.args.line.now _ fits_4 c.in_ok-number_in-3.ensures.number;
      form = held 5 c.args.line.now _ fits_5 c.in_ok-number_in-4.ensures.number;
      label = c.bytes_in.ensures;
      subscript = held 9 c.args.line.now _ fits_6 c.in_ok-number_in-5.ensures.number;
    }
