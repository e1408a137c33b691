use Rattle.std.proofs.Common.{arith, ap, sym, ◌∷◌, [], ◌++◌, List, ℕ}
use Rattle.std.specs.Fmt.{decimal}
use Rattle.iges_write.proofs.ShortNumbers.{as_word, five_digits}
use Rattle.iges_write.proofs.page.Page.put_five.Goals as goal

pub returns : goal.returns
returns c =
    as_word c.put_part.result c.args.self.now c.put_part.new.self (c.digit.result ∷ c.digit-2.result ∷ c.digit-3.result ∷ c.digit-4.result ∷ c.digit-5.result ∷ c.args.delimiter ∷ []) (decimal c.args.n ++ c.args.delimiter ∷ [])
    (sym (ap (λ (x : List ℕ). x ++ c.args.delimiter ∷ [])
    (five_digits c.args.n c.digit.result c.digit-2.result c.digit-3.result c.digit-4.result c.digit-5.result c.requires.digits.0 c.requires.digits.1 c.digit.ensures c.digit-2.ensures c.digit-3.ensures c.digit-4.ensures c.digit-5.ensures)))
    (omega (arith, c.requires.width)) c.put_part.ensures
