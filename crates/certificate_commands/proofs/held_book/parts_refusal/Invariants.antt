use Rattle.std.proofs.Common.{◌≡◌, ◌+◌, ◌≤◌, ◌++◌, ℕ, List, length}
use Rattle.cert_text.specs.declared.TheConstants.{CERT_LIMIT}
use Rattle.certificate_commands.specs.Books.{BeginsPart}
use Rattle.certificate_commands.proofs.held_book.parts_refusal.Given as goal

-- behind good parts the part of this solid has begun, and the rest stands behind its first line
abbrev pub invariant-parts : goal.invariant-parts
invariant-parts l = record {
  file : l.walker ≡ l.fn.walker;
  few : l.line + length l.rest ≤ CERT_LIMIT + 3;
  begins : (ns : List ℕ) × (front : List ℕ) × (l.certificate ≡ front ++ l.rest) × BeginsPart l.fn.walker ns front l.no.0 l.line;
}

abbrev pub decreases-parts : goal.decreases-parts
decreases-parts l = length l.rest
