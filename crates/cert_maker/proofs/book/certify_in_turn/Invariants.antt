use Rattle.std.proofs.Common.{◌≡◌, List}
use Rattle.cert_lines.specs.declared.parts.Certificate.{Certificate}
use Rattle.cert_maker.proofs.BookLemmas.{Left}
use Rattle.cert_maker.proofs.book.certify_in_turn.Given as goal

abbrev pub invariant-entries : goal.invariant-entries
invariant-entries l = record {
  file : l.walker ≡ l.file;
  left : (parts : List Certificate) × Left l.file l.i l.used parts;
}
