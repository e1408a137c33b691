use Rattle.std.proofs.Common.{length, ◌+◌, ◌-◌, ◌≡◌, ◌≤◌, drop}
use Rattle.std.specs.List.{prefix_len}
use Rattle.where_file.specs.Looks.{is_blank_byte}
use Rattle.where_file.proofs.whole.blank_len.Given as goal

abbrev pub invariant-bytes : goal.invariant-bytes
invariant-bytes l = record {
  within : l.len ≤ length l.bytes;
  rest : l.len + prefix_len is_blank_byte (drop l.len l.bytes) ≡ prefix_len is_blank_byte l.bytes;
}

abbrev pub decreases-bytes : goal.decreases-bytes
decreases-bytes l = length l.bytes - l.len
