use Rattle.std.proofs.Common.{refl}
use Rattle.certificate_commands.proofs.Judged.{opened_begun}
use Rattle.std.proofs.Common.{arith}
use Rattle.certificate_commands.proofs.verifying.verify_opened.Goals as goal

pub returns-clause-found : goal.returns-clause-found
returns-clause-found g c = λ before opened.
    let three = rw c.if-is_of_one.false at c.is_of_one.ensures in
    c.book_reply.ensures.found before (opened_begun c.args.file before _ c.args.piece.now c.args.opened _ opened three refl)

pub returns-then-is_of_one-clause-found : goal.returns-then-is_of_one-clause-found
returns-then-is_of_one-clause-found g c = c.verify_alone.ensures.found

pub verify_alone-requires : goal.verify_alone-requires
verify_alone-requires g c =
    record { ready = c.requires.ready; room = c.requires.room; place = c.requires.place; one = rw c.if-is_of_one.true at c.is_of_one.ensures }

pub returns-then-is_of_one-clause-whole : goal.returns-then-is_of_one-clause-whole
returns-then-is_of_one-clause-whole g c = c.verify_alone.ensures.whole

pub returns-then-is_of_one-clause-reads : goal.returns-then-is_of_one-clause-reads
returns-then-is_of_one-clause-reads g c = c.verify_alone.ensures.reads

pub book_reply-requires : goal.book_reply-requires
book_reply-requires g c =
    let place = c.requires.place in
    record {
      ready = c.requires.ready;
      room = c.requires.room;
      place =
          record { few = place.few; ordered = place.ordered; within = place.within; holds = place.holds; lines = omega arith };
    }

pub returns-clause-whole : goal.returns-clause-whole
returns-clause-whole g c = c.book_reply.ensures.whole

pub returns-clause-reads : goal.returns-clause-reads
returns-clause-reads g c = c.book_reply.ensures.reads
