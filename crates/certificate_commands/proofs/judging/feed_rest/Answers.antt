use Rattle.std.proofs.Common.{◌≡◌, ◌∙◌, length, take, refl, arith}
use Rattle.command_replies.proofs.Feeds.{read_long}
use Rattle.certificate_commands.proofs.Judged.{fed_none, fed_more, fed_whole, read_too_many}
use Rattle.cert_text.specs.declared.TheConstants.{CERT_LIMIT}
use Rattle.iges_io.specs.declared.reading.TheConstants.{PIECE}
use Rattle.command_replies.proofs.Taken.{rest_past}
use Rattle.certificate_commands.proofs.judging.feed_rest.Goals as goal

pub returns-in-TooLarge-clause-found : goal.returns-in-TooLarge-clause-found
returns-in-TooLarge-clause-found g c =
    let read = rw c.in-TooLarge.is at (c.in-Ok.ensures {u = tt}).read in
    read_too_many _ _ _ c.args.came c.reads.came c.reads.invariant.fed.read read.0 read.1 read.2

pub returns-in-End-clause-found : goal.returns-in-End-clause-found
returns-in-End-clause-found g c =
    let read = rw c.in-End.is at (c.in-Ok.ensures {u = tt}).read in
    fed_whole _ _ _ c.args.came c.reads.came _ _ c.reads.invariant.fed c.reads.invariant.within read.0 read.1

pub reads-preserved : goal.reads-preserved
reads-preserved g c =
    let read = rw c.in-Bytes.is at (c.in-Ok.ensures {u = tt}).read in
    let more = rw c.in-Bytes.is at (c.in-Ok.ensures {u = tt}).more in
    record {
      within = read.3;
      fed = fed_more _ _ _ c.args.came c.reads.came _ c.reads.checker c.reads.invariant.fed c.feed-fault.new.self c.in-Bytes.count
          (take c.in-Bytes.count c.next_piece.new.buffer) read.0 (read_long c.next_piece.new.buffer c.in-Bytes.count read.2) c.feed-fault.ensures.fed;
      count = (c.in-Ok.ensures {u = tt}).cause ∙ c.reads.invariant.count;
      room = (let h : length c.next_piece.new.buffer ≡ PIECE = omega arith in h);
      ready = more tt;
    }

pub reads-init : goal.reads-init
reads-init g c = record {
  within = c.requires.few;
  fed = fed_none _ c.args.came c.args.checker.now;
  count = refl;
  room = c.requires.room;
  ready =
      c.requires.ready;
}

pub returns-in-TooLarge-clause-reads : goal.returns-in-TooLarge-clause-reads
returns-in-TooLarge-clause-reads g c =
    let read = rw c.in-TooLarge.is at (c.in-Ok.ensures {u = tt}).read in
    let s = c.reads.invariant.fed.read in
    let room : length c.next_piece.new.buffer ≡ PIECE = omega arith in
    record {
      count = (c.in-Ok.ensures {u = tt}).cause ∙ c.reads.invariant.count;
      taken =
          rest_past _ _ _ s.bytes read.0 c.args.came c.reads.came (length c.next_piece.new.buffer) CERT_LIMIT s.taken s.long read.1 c.reads.invariant.within
          read.3 room;
    }
