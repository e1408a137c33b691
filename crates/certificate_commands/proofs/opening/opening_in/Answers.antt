use Rattle.std.proofs.Common.{◌≡◌, ◌+◌, ◌∙◌, length, take, refl, arith}
use Rattle.command_replies.proofs.Feeds.{read_long}
use Rattle.certificate_commands.proofs.FirstLines.{opened_more, opened_too_many, opened_bad, opened_both}
use Rattle.cert_text.specs.declared.TheConstants.{CERT_LIMIT}
use Rattle.iges_io.specs.declared.reading.TheConstants.{PIECE}
use Rattle.command_replies.proofs.Taken.{takes_past, takes_piece}
use Rattle.certificate_commands.proofs.opening.opening_in.Goals as goal

pub returns-in-TooLarge-clause-found : goal.returns-in-TooLarge-clause-found
returns-in-TooLarge-clause-found g c =
    let read = rw c.in-TooLarge.is at (c.in-Ok.ensures {u = tt}).read in
    opened_too_many _ _ _ c.reads.came c.reads.opening read.0 c.reads.invariant.opened read.1 read.2

pub returns-in-Ok-Solid-clause-found : goal.returns-in-Ok-Solid-clause-found
returns-in-Ok-Solid-clause-found g c =
    let read = rw c.in-Bytes.is at (c.in-Ok.ensures {u = tt}).read in
    let step = rw c.in-Ok-Solid.field-0-is at (c.in-Ok-Solid.ensures {u = tt}).step in
    let s = c.reads.invariant.opened in
    let shown = step s.bytes s.stands in
    opened_both _ _ _ c.reads.came c.reads.opening c.feed.new.self c.next_piece.new.buffer (take c.in-Bytes.count c.next_piece.new.buffer) _ s read.0 refl
    (read_long c.next_piece.new.buffer c.in-Bytes.count read.2) refl read.3 read.2 shown.1 shown.0 shown.2

pub returns-in-Err-clause-found : goal.returns-in-Err-clause-found
returns-in-Err-clause-found g c =
    let read = rw c.in-Bytes.is at (c.in-Ok.ensures {u = tt}).read in
    let s = c.reads.invariant.opened in
    let shown = (c.in-Err.ensures {u = tt}).step s.bytes s.stands in
    opened_bad _ _ _ c.reads.came c.in-Bytes.count c.reads.opening c.feed.new.self (take c.in-Bytes.count c.next_piece.new.buffer) c.in-Err.bad s read.0
    (read_long c.next_piece.new.buffer c.in-Bytes.count read.2) read.3 shown.0 shown.1

pub reads-preserved : goal.reads-preserved
reads-preserved g c =
    let read = rw c.in-Bytes.is at (c.in-Ok.ensures {u = tt}).read in
    let more = rw c.in-Bytes.is at (c.in-Ok.ensures {u = tt}).more in
    let step = rw c.in-Ok-More.field-0-is at (c.in-Ok-More.ensures {u = tt}).step in
    let s = c.reads.invariant.opened in
    let shown = step s.bytes s.stands in
    record {
      within = read.3;
      opened = opened_more _ _ _ c.reads.came c.in-Bytes.count c.reads.opening c.feed.new.self (take c.in-Bytes.count c.next_piece.new.buffer) s read.0
          (read_long c.next_piece.new.buffer c.in-Bytes.count read.2) shown.0 shown.1;
      count = (c.in-Ok.ensures {u = tt}).cause ∙ c.reads.invariant.count;
      room = (let h : length c.next_piece.new.buffer ≡ PIECE = omega arith in h);
      ready = more tt;
    }

pub returns-in-TooLarge-clause-reads : goal.returns-in-TooLarge-clause-reads
returns-in-TooLarge-clause-reads g c =
    let read = rw c.in-TooLarge.is at (c.in-Ok.ensures {u = tt}).read in
    let s = c.reads.invariant.opened in
    let room : length c.next_piece.new.buffer ≡ PIECE = omega arith in
    record {
      count = (c.in-Ok.ensures {u = tt}).cause ∙ c.reads.invariant.count;
      taken =
          takes_past _ _ _ s.bytes read.0 c.reads.came (length c.next_piece.new.buffer) CERT_LIMIT s.taken s.long read.1 c.reads.invariant.within read.3 room;
    }

pub returns-in-Ok-Solid-clause-reads : goal.returns-in-Ok-Solid-clause-reads
returns-in-Ok-Solid-clause-reads g c =
    let read = rw c.in-Bytes.is at (c.in-Ok.ensures {u = tt}).read in
    let s = c.reads.invariant.opened in
    record {
      count = (c.in-Ok.ensures {u = tt}).cause ∙ c.reads.invariant.count;
      taken = takes_piece _ _ _ s.bytes c.next_piece.new.buffer c.reads.came
          c.in-Bytes.count (CERT_LIMIT + PIECE) s.taken s.long read.0 (omega (arith, read.3));
    }

pub returns-in-Err-clause-reads : goal.returns-in-Err-clause-reads
returns-in-Err-clause-reads g c =
    let read = rw c.in-Bytes.is at (c.in-Ok.ensures {u = tt}).read in
    let s = c.reads.invariant.opened in
    record {
      count = (c.in-Ok.ensures {u = tt}).cause ∙ c.reads.invariant.count;
      taken = takes_piece _ _ _ s.bytes c.next_piece.new.buffer c.reads.came
          c.in-Bytes.count (CERT_LIMIT + PIECE) s.taken s.long read.0 (omega (arith, read.3));
    }
