use Rattle.std.proofs.Common.{◌≡◌}
use Rattle.cert_maker.proofs.BookLemmas.{Left}
use Rattle.cert_maker.proofs.book.certify_each.Given as goal

abbrev pub invariant-entries : goal.invariant-entries
invariant-entries l = record {
  file : l.walker ≡ l.file;
  left : Left l.file l.i l.used l.parts;
}
