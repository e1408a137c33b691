use Rattle.std.proofs.Common.{refl, arith}
use Rattle.std.proofs.lemmas.Bool.{false≢true}
use Rattle.shell_change.proofs.Matching.{none_below, one_below, all_below}
use Rattle.change_passes.specs.Passes.{IsOldApart}
use Rattle.change_passes.proofs.passing.are_apart.Goals as goal

pub vertices-init : goal.vertices-init
vertices-init c = λ s k b. none_below _ c.args.vertices.now

pub returns-then-not-is_apart : goal.returns-then-not-is_apart
returns-then-not-is_apart c = λ s k b t. absurd (false≢true t)

pub vertices-preserved : goal.vertices-preserved
vertices-preserved c = λ s k b.
    one_below (λ _ name. IsOldApart s k name) c.args.vertices.now c.vertices.i _ c.item_at.ensures (c.if-not-is_apart.ensures s k b refl) (c.vertices.invariant s k b)

pub returns : goal.returns
returns c = λ s k b t. all_below (λ _ name. IsOldApart s k name) c.args.vertices.now c.vertices.i (omega arith) (c.vertices.invariant s k b)
