use Rattle.std.proofs.Common.{length, ◌+◌, ◌-◌, ◌≡◌, ◌≤◌, ◌==◌, drop, not}
use Rattle.std.specs.List.{prefix_len}
use Rattle.iges_lines.proofs.pieces.scanned_len.Given as goal

abbrev pub invariant-bytes : goal.invariant-bytes
invariant-bytes l = record {
  within : l.at ≤ length l.bytes;
  rest : l.at + prefix_len (λ b. not (b == 10)) (drop l.at l.bytes) ≡ prefix_len (λ b. not (b == 10)) l.bytes;
}

abbrev pub decreases-bytes : goal.decreases-bytes
decreases-bytes l = length l.bytes - l.at
