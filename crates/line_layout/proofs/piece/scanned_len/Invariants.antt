use Rattle.std.proofs.Common.{length, ◌+◌, ◌-◌, ◌≡◌, ◌≤◌, ◌==◌, drop, not}
use Rattle.std.specs.List.{prefix_len}
use Rattle.line_layout.proofs.piece.scanned_len.Given as goal

abbrev pub invariant-bytes : goal.invariant-bytes
invariant-bytes l = record {
  within : l.at ≤ length l.bytes;
  rest : l.at + prefix_len (λ b. not (b == l.end)) (drop l.at l.bytes) ≡ prefix_len (λ b. not (b == l.end)) l.bytes;
}

abbrev pub decreases-bytes : goal.decreases-bytes
decreases-bytes l = length l.bytes - l.at
