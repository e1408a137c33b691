use Rattle.std.proofs.Common.{ℕ, not, ◌==◌, refl, arith}
use Rattle.std.proofs.lemmas.List.Sums.{prefix_len-le-length}
use Rattle.line_layout.proofs.Cutting.{first_of_more, first_of_last, cut_of_more, cut_of_last}
use Rattle.line_layout.proofs.piece.first_piece.Goals as goal

pub split_at-requires : goal.split_at-requires
split_at-requires c = omega (arith, c.piece_len.ensures, prefix_len-le-length (λ (b : ℕ). not (b == c.args.end)) c.args.bytes.now)

pub returns-in-empty : goal.returns-in-empty
returns-in-empty c =
    let h = first_of_last c.args.end c.args.bytes.now _ _ _ c.requires c.piece_len.ensures c.split_at.ensures.front c.split_at.ensures.back
    c.in-empty.len_below in
    record {
      pieces = h.0;
      shorter = h.1;
      cuts = cut_of_last c.args.end c.args.bytes.now _ _ _ c.requires c.piece_len.ensures c.split_at.ensures.front c.split_at.ensures.back c.in-empty.len_below;
    }

pub returns-in-len1-up : goal.returns-in-len1-up
returns-in-len1-up c =
    let h = first_of_more c.args.end c.args.bytes.now _ _ _ c.requires c.piece_len.ensures c.split_at.ensures.front c.split_at.ensures.back
    c.in-len1-up.len_at_least _ refl in
    record {
      pieces = h.0;
      shorter = h.1;
      cuts = cut_of_more c.args.end c.args.bytes.now _ _ _ c.requires c.piece_len.ensures c.split_at.ensures.front c.split_at.ensures.back
          c.in-len1-up.len_at_least _ refl;
    }
