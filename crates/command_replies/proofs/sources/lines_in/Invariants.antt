use Rattle.std.proofs.Common.{◌≡◌, ◌≤◌, ◌-◌, length}
use Rattle.iges_base.specs.declared.TheConstants.{FILE_LIMIT}
use Rattle.iges_io.specs.declared.reading.TheConstants.{PIECE}
use Rattle.command_replies.proofs.Feeds.{IsFedSoFar}
use Rattle.command_replies.proofs.sources.lines_in.Given as goal

abbrev pub invariant-reads : goal.invariant-reads
invariant-reads g l = record {
  within : l.came ≤ FILE_LIMIT;
  fed : IsFedSoFar (g.S.Source.left l.fn.source) (g.S.Source.left l.source) l.feed l.came;
  count : g.S.Source.faults l.source ≡ g.S.Source.faults l.fn.source;
  room : length l.piece ≡ PIECE;
  ready : g.S.Source.can_read l.source;
}

abbrev pub decreases-reads : goal.decreases-reads
decreases-reads g l = FILE_LIMIT - l.came
