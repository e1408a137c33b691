use Rattle.std.proofs.Common.{rules, ◌≡◌, refl, subst, ◌++◌, List, ℕ}
use Rattle.std.specs.Prelude.{OnOk}
use Rattle.std.specs.Fmt.{decimal}
use Rattle.std.proofs.lemmas.Fmt.{length-decimal-le}
use Rattle.line_layout.proofs.Right.{right_written}
use Rattle.line_layout.proofs.row.put_seven.Goals as goal

pub write_digits-requires : goal.write_digits-requires
write_digits-requires c = search (rules, length-decimal-le 7)

pub returns : goal.returns
returns c =
    subst (λ (x : List ℕ). OnOk c.put.result (c.put.new.self ≡ c.args.out.now ++ x))
    (right_written c.write_digits.new.buf _ (decimal c.args.n) c.write_digits.result 7 refl c.write_digits.ensures.start c.write_digits.ensures.written
    c.write_digits.ensures.before) c.put.ensures.ok
