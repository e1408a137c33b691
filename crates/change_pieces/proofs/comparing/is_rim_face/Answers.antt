use Rattle.std.proofs.Common.{refl, arith, subst, [], ◌∷◌}
use Rattle.shell_change.specs.Matching.{Matched}
use Rattle.change_pieces.specs.Pieces.{IsLoop, rim_loop}
use Rattle.change_pieces.proofs.Compared.{matched_one}
use Rattle.change_pieces.proofs.Steps.{no_claim}
use Rattle.change_pieces.proofs.comparing.is_rim_face.Goals as goal

pub returns-then-not-same_flag : goal.returns-then-not-same_flag
returns-then-not-same_flag c = λ vs. no_claim

pub returns : goal.returns
returns c = λ vs t. record {
  flag = c.if-not-same_flag.ensures refl;
  loops = subst (λ ls. Matched (IsLoop vs c.args.edges.now) (rim_loop c.args.rim.now ∷ []) ls) c.as_slice-loops.ensures
      (matched_one (IsLoop vs c.args.edges.now) (rim_loop c.args.rim.now) c.as_slice-loops.result.now _ (omega arith) c.item_at.ensures (c.is_rim_loop.ensures vs t));
}
