use Rattle.std.proofs.Common.{rules, refl}
use Rattle.std.specs.Fmt.{decimal}
use Rattle.std.proofs.lemmas.Fmt.{length-decimal-le}
use Rattle.iges_write.proofs.Sheets.{right_written}
use Rattle.iges_write.proofs.column.digits_field.Goals as goal

pub write_digits-requires : goal.write_digits-requires
write_digits-requires c = search (rules, length-decimal-le 8)

pub returns : goal.returns
returns c =
    right_written c.write_digits.new.buf _ (decimal c.args.n) c.write_digits.result 8 refl c.write_digits.ensures.start c.write_digits.ensures.written
    c.write_digits.ensures.before
