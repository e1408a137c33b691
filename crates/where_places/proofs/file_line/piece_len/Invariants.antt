use Rattle.std.proofs.Common.{length, ◌+◌, ◌-◌, ◌≡◌, ◌≤◌, ◌==◌, drop, not}
use Rattle.std.specs.List.{prefix_len}
use Rattle.where_places.proofs.file_line.piece_len.Given as goal

abbrev pub invariant-bytes : goal.invariant-bytes
invariant-bytes l = record {
  within : l.len ≤ length l.bytes;
  rest : l.len + prefix_len (λ b. not (b == 10)) (drop l.len l.bytes) ≡ prefix_len (λ b. not (b == 10)) l.bytes;
}

abbrev pub decreases-bytes : goal.decreases-bytes
decreases-bytes l = length l.bytes - l.len
