use Rattle.certificate_commands.proofs.books.book_reply.Goals as goal

pub parts_reply-reply-requires : goal.parts_reply-reply-requires
parts_reply-reply-requires g c = record { ready = c.requires.ready; room = c.requires.room; place = c.requires.place }

pub returns-clause-found : goal.returns-clause-found
returns-clause-found g c = rw c.new-walker.ensures at c.parts_reply-reply.ensures.found

pub returns-clause-whole : goal.returns-clause-whole
returns-clause-whole g c = c.parts_reply-reply.ensures.whole

pub returns-clause-reads : goal.returns-clause-reads
returns-clause-reads g c = c.parts_reply-reply.ensures.reads
