use Rattle.std.proofs.Common.{length, ◌+◌, ◌-◌, ◌≡◌, ◌≤◌, drop}
use Rattle.std.specs.List.{prefix_len}
use Rattle.where_places.specs.Spans.{is_of_word}
use Rattle.where_places.proofs.span.len_before_end.Given as goal

abbrev pub invariant-bytes : goal.invariant-bytes
invariant-bytes l = record {
  within : l.len ≤ length l.body;
  rest : l.len + prefix_len (is_of_word l.delims) (drop l.len l.body) ≡ prefix_len (is_of_word l.delims) l.body;
}

abbrev pub decreases-bytes : goal.decreases-bytes
decreases-bytes l = length l.body - l.len
