use Rattle.std.proofs.Common.{rules}
use mir.Val.{SFits}
use mir.Syntax.{w64}
use Rattle.iges_directory.proofs.InColumns.{held}
use Rattle.iges_directory.proofs.pair.first_half.Goals as goal

pub returns-clause-some : goal.returns-clause-some
returns-clause-some c =
    let fits_1 : SFits w64 c.in_ok-number_in.field-0 = search rules in
    let fits_2 : SFits w64 c.in_ok-number_in-2.field-0 = search rules in
    let fits_3 : SFits w64 c.in_ok-number_in-3.field-0 = search rules in
    let fits_4 : SFits w64 c.in_ok-number_in-4.field-0 = search rules in
    let fits_5 : SFits w64 c.in_ok-number_in-5.field-0 = search rules in
    let fits_6 : SFits w64 c.in_ok-number_in-6.field-0 = search rules in
    let fits_7 : SFits w64 c.in_ok-number_in-7.field-0 = search rules in
    let fits_8 : SFits w64 c.in_ok-number_in-8.field-0 = search rules in
    record {
      kind = held 1 c.args.line.now _ fits_1 c.in_ok-number_in.ensures.number;
      record_first = held 2 c.args.line.now _ fits_2 c.in_ok-number_in-2.ensures.number;
      structure = held 3 c.args.line.now _ fits_3 c.in_ok-number_in-3.ensures.number;
      font = held 4 c.args.line.now _ fits_4 c.in_ok-number_in-4.ensures.number;
      level = held 5 c.args.line.now _ fits_5 c.in_ok-number_in-5.ensures.number;
      view = held 6 c.args.line.now _ fits_6 c.in_ok-number_in-6.ensures.number;
      matrix = held 7 c.args.line.now _ fits_7 c.in_ok-number_in-7.ensures.number;
      display = held 8 c.args.line.now _ fits_8 c.in_ok-number_in-8.ensures.number;
      status = c.in_ok-status_in.ensures.some;
      status_digits = c.in_ok-status_in.ensures.digits;
    }
