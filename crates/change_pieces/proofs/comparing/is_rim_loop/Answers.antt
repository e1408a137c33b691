use Rattle.std.specs.Prelude.{map}
use Rattle.std.proofs.Common.{subst}
use Rattle.shell_change.specs.Matching.{Matched}
use Rattle.change_pieces.specs.Names.{IsUse}
use Rattle.change_pieces.specs.Pieces.{rim_use}
use Rattle.change_pieces.proofs.Compared.{matched_map}
use Rattle.change_pieces.proofs.comparing.is_rim_loop.Goals as goal

pub returns : goal.returns
returns c = λ vs t.
    subst (λ xs. Matched (IsUse vs c.args.edges.now) (map rim_use xs) c.args.walk.now.uses) c.as_slice.ensures
    (subst (λ ys. Matched (IsUse vs c.args.edges.now) (map rim_use c.as_slice.result.now) ys) c.as_slice-2.ensures
    (matched_map rim_use (IsUse vs c.args.edges.now) _ _ (c.are_rim_uses.ensures vs t)))
