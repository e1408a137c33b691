use Rattle.std.proofs.Common.{◌∙◌}
use Rattle.vertex_places.proofs.FirstPlaces.{first_known, firsts_kept, first_new, firsts_more}
use Rattle.vertex_places.proofs.finding.first_like.Goals as goal

pub returns-in-Some-clause-first : goal.returns-in-Some-clause-first
returns-in-Some-clause-first c keys at are =
    first_known keys c.args.v c.in-Some.first c.args.key.items (c.in-Some.ensures ∙ are c.args.key)

pub returns-in-Some-clause-firsts : goal.returns-in-Some-clause-firsts
returns-in-Some-clause-firsts c keys at are q =
    are q ∙ firsts_kept keys c.args.v c.in-Some.first c.args.key.items q.items at (c.in-Some.ensures ∙ are c.args.key)

pub returns-in_ok-insert-in-None-clause-first : goal.returns-in_ok-insert-in-None-clause-first
returns-in_ok-insert-in-None-clause-first c keys at are = first_new keys c.args.v c.args.key.items at (c.in-None.ensures ∙ are c.args.key)

pub returns-in_ok-insert-in-None-clause-firsts : goal.returns-in_ok-insert-in-None-clause-firsts
returns-in_ok-insert-in-None-clause-firsts c keys at are q =
    c.in_ok-insert-in-None.ensures.updates.0 q
    ∙ firsts_more keys c.args.v c.args.key.items q.items _ at (c.in-None.ensures ∙ are c.args.key) (are q)
