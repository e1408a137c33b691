use Rattle.std.proofs.Common.{◌≡◌, ◌-◌, [], ℕ, List, Option, length}
use Rattle.cert_text.specs.declared.TheConstants.{CERT_LIMIT}
use Rattle.iges_io.specs.declared.reading.TheConstants.{PIECE}
use Rattle.certificate_commands.specs.Books.{HasBegun, IsPlace, passed}
use Rattle.command_replies.specs.Texts.{accepted_lines}
use Rattle.certificate_commands.proofs.PartsRead.{TakenSince}
use Rattle.certificate_commands.proofs.books.parts_reply.Given as goal

-- a part has begun behind good ones, each of which has its line
abbrev pub invariant-parts : goal.invariant-parts
invariant-parts g l = record {
  file : l.walker ≡ l.fn.walker;
  place : IsPlace l.piece l.begun;
  since : TakenSince (g.C.Source.left l.fn.cert) (g.C.Source.left l.cert) l.fn.begun.came l.begun.came;
  told : (before : Option (List ℕ)) → HasBegun l.fn.walker [] before (g.C.Source.left l.fn.cert) l.fn.piece l.fn.begun
      → (ns : List ℕ) × HasBegun l.fn.walker ns before (g.C.Source.left l.cert) l.piece l.begun × (l.out ≡ accepted_lines ns);
  count : g.C.Source.faults l.cert ≡ g.C.Source.faults l.fn.cert;
  room : length l.piece ≡ PIECE;
  ready : g.C.Source.can_read l.cert;
}

abbrev pub decreases-parts : goal.decreases-parts
decreases-parts g l = CERT_LIMIT - passed l.begun
