use Rattle.std.proofs.Common.{◌≡◌, ◌∙◌, length, take, refl, arith}
use Rattle.command_replies.proofs.Feeds.{read_long}
use Rattle.certificate_commands.proofs.Judged.{read_none, read_more, read_whole, read_too_many}
use Rattle.cert_text.specs.declared.TheConstants.{CERT_LIMIT}
use Rattle.iges_io.specs.declared.reading.TheConstants.{PIECE}
use Rattle.command_replies.proofs.Taken.{rest_past}
use Rattle.certificate_commands.proofs.decided.read_rest.Goals as goal

pub returns-in-TooLarge-clause-found : goal.returns-in-TooLarge-clause-found
returns-in-TooLarge-clause-found g c =
    let read = rw c.in-TooLarge.is at (c.in-Ok.ensures {u = tt}).read in
    read_too_many _ _ _ c.args.came c.reads.came c.reads.invariant.read read.0 read.1 read.2

pub returns-in-End-clause-found : goal.returns-in-End-clause-found
returns-in-End-clause-found g c =
    let read = rw c.in-End.is at (c.in-Ok.ensures {u = tt}).read in
    read_whole _ _ _ c.args.came c.reads.came c.reads.invariant.read c.reads.invariant.within read.0 read.1

pub reads-preserved : goal.reads-preserved
reads-preserved g c =
    let read = rw c.in-Bytes.is at (c.in-Ok.ensures {u = tt}).read in
    let more = rw c.in-Bytes.is at (c.in-Ok.ensures {u = tt}).more in
    record {
      within = read.3;
      read = read_more _ _ _ c.args.came c.reads.came c.reads.invariant.read c.in-Bytes.count (take c.in-Bytes.count c.next_piece.new.buffer) read.0
          (read_long c.next_piece.new.buffer c.in-Bytes.count read.2);
      count = (c.in-Ok.ensures {u = tt}).cause ∙ c.reads.invariant.count;
      room = (let h : length c.next_piece.new.buffer ≡ PIECE = omega arith in h);
      ready = more tt;
    }

pub reads-init : goal.reads-init
reads-init g c = record { within = c.requires.few; read = read_none _ c.args.came; count = refl; room = c.requires.room; ready = c.requires.ready }

pub returns-in-TooLarge-clause-reads : goal.returns-in-TooLarge-clause-reads
returns-in-TooLarge-clause-reads g c =
    let read = rw c.in-TooLarge.is at (c.in-Ok.ensures {u = tt}).read in
    let s = c.reads.invariant.read in
    let room : length c.next_piece.new.buffer ≡ PIECE = omega arith in
    record {
      count = (c.in-Ok.ensures {u = tt}).cause ∙ c.reads.invariant.count;
      taken =
          rest_past _ _ _ s.bytes read.0 c.args.came c.reads.came (length c.next_piece.new.buffer) CERT_LIMIT s.taken s.long read.1 c.reads.invariant.within
          read.3 room;
    }
