use Rattle.std.proofs.Common.{ℕ, not, ◌==◌, refl, arith}
use Rattle.std.proofs.lemmas.List.Sums.{prefix_len-le-length}
use Rattle.iges_lines.proofs.Cutting.{piece_in_line, piece_and_more, all_in_line}
use Rattle.iges_lines.proofs.pieces.first_ended.Goals as goal

pub split_at-requires : goal.split_at-requires
split_at-requires c = omega (arith, c.piece_len.ensures, prefix_len-le-length (λ (b : ℕ). not (b == 10)) c.args.bytes.now)

pub returns-in-empty : goal.returns-in-empty
returns-in-empty c = all_in_line c.args.bytes.now _ _ _ c.piece_len.ensures c.split_at.ensures.front c.split_at.ensures.back c.in-empty.len_below

pub returns-in-len1-up : goal.returns-in-len1-up
returns-in-len1-up c = (
  piece_and_more c.args.bytes.now _ _ _ c.piece_len.ensures c.split_at.ensures.front c.split_at.ensures.back c.in-len1-up.len_at_least _ refl,
  piece_in_line c.args.bytes.now _ _ _ c.piece_len.ensures c.split_at.ensures.front c.split_at.ensures.back,
)
