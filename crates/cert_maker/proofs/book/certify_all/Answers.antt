use Rattle.cert_maker.proofs.book.certify_all.Goals as goal

pub certify_shared-parts-requires : goal.certify_shared-parts-requires
certify_shared-parts-requires c = c.new-walker.ensures

pub returns-clause-parts : goal.returns-clause-parts
returns-clause-parts c = c.certify_shared-parts.ensures.parts

pub returns-clause-some : goal.returns-clause-some
returns-clause-some c = c.certify_shared-parts.ensures.some

pub returns-clause-book : goal.returns-clause-book
returns-clause-book c = c.certify_shared-parts.ensures.book

pub returns-clause-made : goal.returns-clause-made
returns-clause-made c = c.certify_shared-parts.ensures.made

pub returns-clause-fault : goal.returns-clause-fault
returns-clause-fault c = c.certify_shared-parts.ensures.fault
