use Rattle.cert_maker.proofs.BookMade.{one_text_of_book}
use Rattle.cert_maker.proofs.law.one_book_text.Goals as goal

pub returns : goal.returns
returns c = one_text_of_book
