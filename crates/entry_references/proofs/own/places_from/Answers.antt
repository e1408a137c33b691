use Rattle.std.proofs.Common.{◌+◌, ◌++◌, ◌∷◌, [], List, ℕ, sym, ap, ◌∙◌}
use Rattle.entry_references.proofs.Values.{range_more}
use Rattle.entry_references.proofs.own.places_from.Goals as goal

pub count-preserved : goal.count-preserved
count-preserved c = c.in_ok-push.ensures.ok ∙ ap (λ (l : List ℕ). l ++ (c.args.first + c.count.i) ∷ []) c.count.invariant
    ∙ sym (range_more c.args.first c.count.i)
