use Rattle.std.proofs.Common.{◌≡◌, ◌≤◌, ◌-◌, length}
use Rattle.cert_text.specs.declared.TheConstants.{CERT_LIMIT}
use Rattle.iges_io.specs.declared.reading.TheConstants.{PIECE}
use Rattle.certificate_commands.proofs.Judged.{IsReadSoFar}
use Rattle.certificate_commands.proofs.decided.read_rest.Given as goal

abbrev pub invariant-reads : goal.invariant-reads
invariant-reads g l = record {
  within : l.came ≤ CERT_LIMIT;
  read : IsReadSoFar (g.C.Source.left l.fn.cert) (g.C.Source.left l.cert) l.fn.came l.came;
  count : g.C.Source.faults l.cert ≡ g.C.Source.faults l.fn.cert;
  room : length l.piece ≡ PIECE;
  ready : g.C.Source.can_read l.cert;
}

abbrev pub decreases-reads : goal.decreases-reads
decreases-reads g l = CERT_LIMIT - l.came
