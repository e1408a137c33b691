use Rattle.std.proofs.Common.{◌≡◌, ◌≤◌, ◌-◌, length}
use Rattle.cert_text.specs.declared.TheConstants.{CERT_LIMIT}
use Rattle.iges_io.specs.declared.reading.TheConstants.{PIECE}
use Rattle.certificate_commands.specs.Books.{IsInPart, held}
use Rattle.certificate_commands.proofs.BookReads.{ReadsPart, between}
use Rattle.certificate_commands.proofs.books.read_part.Given as goal

abbrev pub invariant-pieces : goal.invariant-pieces
invariant-pieces g l = record {
  few : l.came ≤ CERT_LIMIT;
  ordered : l.from ≤ l.to;
  within : l.to ≤ length l.piece;
  reads : ReadsPart (g.C.Source.left l.fn.cert) (g.C.Source.left l.cert) l.fn.begun.came (held l.fn.piece l.fn.begun) (between l.piece l.from l.to) l.came
      l.fn.checker l.checker;
  part : IsInPart l.checker;
  count : g.C.Source.faults l.cert ≡ g.C.Source.faults l.fn.cert;
  room : length l.piece ≡ PIECE;
  ready : g.C.Source.can_read l.cert;
}

abbrev pub decreases-pieces : goal.decreases-pieces
decreases-pieces g l = CERT_LIMIT - l.came
