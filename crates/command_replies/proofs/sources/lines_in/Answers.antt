use Rattle.std.proofs.Common.{◌≡◌, ◌∙◌, arith, take, length}
use Rattle.iges_base.specs.declared.TheConstants.{FILE_LIMIT}
use Rattle.command_replies.proofs.Feeds.{so_far_more, fed_told, too_many, read_long}
use Rattle.iges_io.specs.declared.reading.TheConstants.{PIECE}
use Rattle.command_replies.proofs.Taken.{takes_past, takes_piece, within_few}
use Rattle.command_replies.proofs.sources.lines_in.Goals as goal

pub returns-in-TooLarge-clause-found : goal.returns-in-TooLarge-clause-found
returns-in-TooLarge-clause-found g c =
    let read = rw c.in-TooLarge.is at (c.in-Ok.ensures {u = tt}).read in
    too_many FILE_LIMIT _ _ _ c.reads.feed c.reads.came read.0 c.too_large.result c.reads.invariant.fed read.1 read.2 c.too_large.ensures

pub returns-in-End-clause-found : goal.returns-in-End-clause-found
returns-in-End-clause-found g c =
    let read = rw c.in-End.is at (c.in-Ok.ensures {u = tt}).read in
    fed_told _ _ _ c.reads.feed c.reads.came c.reads.invariant.fed c.reads.invariant.within read.0 read.1

pub reads-preserved : goal.reads-preserved
reads-preserved g c =
    let read = rw c.in-Bytes.is at (c.in-Ok.ensures {u = tt}).read in
    let more = rw c.in-Bytes.is at (c.in-Ok.ensures {u = tt}).more in
    record {
      within = read.3;
      fed = so_far_more _ _ _ _ _ c.reads.came c.in-Bytes.count (take c.in-Bytes.count c.next_piece.new.buffer) c.reads.invariant.fed read.0
          (read_long c.next_piece.new.buffer c.in-Bytes.count read.2) (c.in_ok-feed.ensures {u = tt}).ok;
      count = (c.in-Ok.ensures {u = tt}).cause ∙ c.reads.invariant.count;
      room = (let h : length c.next_piece.new.buffer ≡ PIECE = omega arith in h);
      ready = more tt;
    }

pub returns-in-TooLarge-clause-taken : goal.returns-in-TooLarge-clause-taken
returns-in-TooLarge-clause-taken g c =
    let read = rw c.in-TooLarge.is at (c.in-Ok.ensures {u = tt}).read in
    let fed = c.reads.invariant.fed in
    let room : length c.next_piece.new.buffer ≡ PIECE = omega arith in
    takes_past _ _ _ fed.bytes read.0 c.reads.came (length c.next_piece.new.buffer) FILE_LIMIT fed.taken fed.long read.1 c.reads.invariant.within read.3 room

pub returns-in_err-feed-clause-taken : goal.returns-in_err-feed-clause-taken
returns-in_err-feed-clause-taken g c =
    let read = rw c.in-Bytes.is at (c.in-Ok.ensures {u = tt}).read in
    let fed = c.reads.invariant.fed in
    within_few FILE_LIMIT _ _ c.from_residual-in_err-feed.result
    (takes_piece _ _ _ fed.bytes c.next_piece.new.buffer c.reads.came c.in-Bytes.count FILE_LIMIT fed.taken fed.long read.0 read.3)
