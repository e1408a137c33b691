use Rattle.std.proofs.Common.{rules, refl, ap, subst, arith, ◌≤◌, ◌∙◌, ◌∷◌, [], ◌++◌, List, ℕ, length, length-append}
use Rattle.std.specs.Fmt.{decimal}
use Rattle.std.proofs.lemmas.Fmt.{length-decimal-le}
use Rattle.iges_write.specs.Sheet.{Sheet, Steps, put_part}
use Rattle.iges_write.proofs.Sheets.{word_is_part, word_written}
use Rattle.iges_write.proofs.page.Page.put_digits.Goals as goal

pub write_digits-start-requires : goal.write_digits-start-requires
write_digits-start-requires c = search (rules, length-decimal-le 20)

pub returns : goal.returns
returns c =
    let word : List ℕ = decimal c.args.n ++ c.args.delimiter ∷ [] in
    let few : length (decimal c.args.n) ≤ 20 = omega (arith, c.write_digits-start.ensures.start) in
    subst (λ (s : Sheet). Steps c.put_part.result c.put_part.new.self s)
    (ap (put_part c.args.self.now)
    (word_written c.write_digits-start.new.buf _ (decimal c.args.n) c.write_digits-start.result c.args.delimiter refl c.write_digits-start.ensures.start
    c.write_digits-start.ensures.written)
    ∙ word_is_part c.args.self.now word (omega (arith, few, c.requires, length-append (decimal c.args.n) (c.args.delimiter ∷ []))))
    c.put_part.ensures
