use Rattle.certificate_commands.proofs.held_book.book_refusal.Goals as goal

pub parts_refusal-refusal-requires : goal.parts_refusal-refusal-requires
parts_refusal-refusal-requires c = record { few = c.requires.few; opens = c.requires.opens }

pub returns : goal.returns
returns c = rw c.new-walker.ensures at c.parts_refusal-refusal.ensures
