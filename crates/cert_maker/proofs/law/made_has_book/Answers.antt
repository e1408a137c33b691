use Rattle.cert_maker.proofs.SomeBook.{some_book}
use Rattle.cert_maker.proofs.SomeText.{some_text}
use Rattle.cert_maker.proofs.law.made_has_book.Goals as goal

pub returns : goal.returns
returns c = some_book some_text
