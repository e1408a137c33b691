use Rattle.cert_maker.proofs.BookMade.{book_text_accepted}
use Rattle.cert_maker.proofs.law.book_text_is_accepted.Goals as goal

pub returns : goal.returns
returns c = book_text_accepted
