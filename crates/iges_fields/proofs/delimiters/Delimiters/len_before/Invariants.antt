use Rattle.std.proofs.Common.{length, ◌+◌, ◌-◌, ◌≡◌, ◌≤◌, drop, not}
use Rattle.std.specs.List.{prefix_len}
use Rattle.iges_fields.specs.FreeText.{is_delimiter_of}
use Rattle.iges_fields.proofs.delimiters.Delimiters.len_before.Given as goal

abbrev pub invariant-bytes : goal.invariant-bytes
invariant-bytes l = record {
  within : l.at ≤ length l.text;
  rest : l.at + prefix_len (λ b. not (is_delimiter_of l.self b)) (drop l.at l.text) ≡ prefix_len (λ b. not (is_delimiter_of l.self b)) l.text;
}

abbrev pub decreases-bytes : goal.decreases-bytes
decreases-bytes l = length l.text - l.at
