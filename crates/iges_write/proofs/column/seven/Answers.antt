use Rattle.std.proofs.Common.{◌≤◌, rules, refl, ap, ◌∙◌, length, arith}
use Rattle.std.specs.Fmt.{decimal}
use Rattle.std.proofs.lemmas.Fmt.{length-decimal-le}
use Rattle.iges_write.proofs.Endings.{many_digits, right_eight}
use Rattle.iges_write.proofs.Sheets.{right_written}
use Rattle.iges_write.proofs.column.seven.Goals as goal

pub last_seven-requires : goal.last_seven-requires
last_seven-requires c =
    let many : 7 ≤ length (decimal c.args.n) = many_digits c.args.n (search rules) (omega (arith, c.if-n-gt-LINE_LIMIT.true)) in
    omega (arith, many, ap length (c.as_bytes.ensures.value ∙ c.format.ensures.text))

pub write_digits-requires : goal.write_digits-requires
write_digits-requires c = search (rules, length-decimal-le 8)

pub returns : goal.returns
returns c =
    let few : length (decimal c.args.n) ≤ 7 = search (rules, length-decimal-le 7) in
    right_written c.write_digits.new.buf _ (decimal c.args.n) c.write_digits.result 8 refl c.write_digits.ensures.start c.write_digits.ensures.written
    c.write_digits.ensures.before
    ∙ right_eight (decimal c.args.n) few
