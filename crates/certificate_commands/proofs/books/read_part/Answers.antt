use Rattle.std.proofs.Common.{◌≡◌, ◌≤◌, ◌∙◌, length, refl, arith, subst}
use Rattle.iges_io.specs.declared.reading.TheConstants.{PIECE}
use Rattle.command_replies.proofs.Feeds.{read_long}
use Rattle.certificate_commands.proofs.BookReads.{Feeds, in_part_more, reads_none, reads_more, reads_last, reads_too_many, reads_past, reads_next}
use Rattle.certificate_commands.proofs.books.read_part.Goals as goal

pub returns-in-Some-clause-found : goal.returns-in-Some-clause-found
returns-in-Some-clause-found g c =
    let says = subst (Feeds _ _ _) c.in-Some.is c.feed.ensures.fed in
    reads_next _ _ c.args.begun.came c.pieces.came c.pieces.from c.pieces.to _ _ _ _ _ c.in-Some.next _ c.pieces.invariant.reads says
    (rw c.in-Some.is at c.feed.ensures.within) c.pieces.invariant.few c.pieces.invariant.ordered c.pieces.invariant.within refl

pub returns-in-End-clause-found : goal.returns-in-End-clause-found
returns-in-End-clause-found g c =
    let read = rw c.in-End.is at (c.in-Ok.ensures {u = tt}).read in
    reads_last _ _ _ c.args.begun.came c.pieces.came _ _ _ _ _ c.pieces.invariant.reads (subst (Feeds _ _ _) c.in_default.is c.feed.ensures.fed)
    c.pieces.invariant.few read.0 read.1

pub returns-in-TooLarge-clause-found : goal.returns-in-TooLarge-clause-found
returns-in-TooLarge-clause-found g c =
    let read = rw c.in-TooLarge.is at (c.in-Ok.ensures {u = tt}).read in
    reads_too_many _ _ _ c.args.begun.came c.pieces.came _ _ _ _ _ c.pieces.invariant.reads (subst (Feeds _ _ _) c.in_default.is c.feed.ensures.fed) read.0
    read.1 read.2

pub feed-requires : goal.feed-requires
feed-requires g c = c.pieces.invariant.part

pub pieces-preserved : goal.pieces-preserved
pieces-preserved g c =
    let read = rw c.in-Bytes.is at (c.in-Ok.ensures {u = tt}).read in
    let says = subst (Feeds _ _ _) c.in_default.is c.feed.ensures.fed in
    record {
      few = read.3;
      ordered = (let h : 0 ≤ c.in-Bytes.count = omega arith in h);
      within = read.2;
      reads = reads_more _ _ _ c.args.begun.came c.pieces.came _ _ _ _ _ c.pieces.invariant.reads says c.next_piece.new.buffer c.in-Bytes.count read.0
          (read_long c.next_piece.new.buffer c.in-Bytes.count read.2);
      part = in_part_more _ _ _ c.pieces.invariant.part says;
      count = (c.in-Ok.ensures {u = tt}).cause ∙ c.pieces.invariant.count;
      room = (let h : length c.next_piece.new.buffer ≡ PIECE = omega arith in h);
      ready = (c.in-Ok.ensures {u = tt}).more (rw c.in-Bytes.is tt);
    }

pub pieces-init : goal.pieces-init
pieces-init g c = record {
  few = c.requires.place.few;
  ordered = c.requires.place.ordered;
  within = c.requires.place.within;
  reads = reads_none _ c.args.begun.came _ c.args.checker.now;
  part = c.requires.part;
  count = refl;
  room = c.requires.room;
  ready = c.requires.ready;
}

pub returns-in-TooLarge-clause-reads : goal.returns-in-TooLarge-clause-reads
returns-in-TooLarge-clause-reads g c =
    let read = rw c.in-TooLarge.is at (c.in-Ok.ensures {u = tt}).read in
    record {
      count = (c.in-Ok.ensures {u = tt}).cause ∙ c.pieces.invariant.count;
      taken =
          reads_past _ _ _ c.args.begun.came c.pieces.came _ _ c.next_piece.new.buffer _ _ c.pieces.invariant.reads c.pieces.invariant.few read.0 read.1 read.3
          (let h : length c.next_piece.new.buffer ≡ PIECE = omega arith in h);
    }
