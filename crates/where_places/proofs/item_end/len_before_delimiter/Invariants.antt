use Rattle.std.proofs.Common.{length, ◌+◌, ◌-◌, ◌≡◌, ◌≤◌, drop, not}
use Rattle.std.specs.List.{prefix_len}
use Rattle.iges_fields.specs.FreeText.{is_delimiter_of}
use Rattle.where_places.proofs.item_end.len_before_delimiter.Given as goal

abbrev pub invariant-bytes : goal.invariant-bytes
invariant-bytes l = record {
  within : l.len ≤ length l.text;
  rest : l.len + prefix_len (λ b. not (is_delimiter_of l.delims b)) (drop l.len l.text) ≡ prefix_len (λ b. not (is_delimiter_of l.delims b)) l.text;
}

abbrev pub decreases-bytes : goal.decreases-bytes
decreases-bytes l = length l.text - l.len
