use Rattle.std.proofs.Common.{◌∙◌, rules}
use Rattle.brep_numbering.proofs.PlacedNumbers.{still_placed, placed_more, not_there}
use Rattle.brep_numbering.proofs.number_set.NumberSet.insert.Goals as goal

pub invariant_of-self-in_err-push : goal.invariant_of-self-in_err-push
invariant_of-self-in_err-push c =
    rw c.in_err-push.ensures.items (still_placed c.self.inside.positions c.set.new.self c.self.inside.numbers.items c.args.no.0 c.self.invariant
    (not_there _ _ c.self.view_is c.args.no.0 c.if-has.ensures.1) c.in_ok-set.ensures.others)

pub invariant_of-self-2 : goal.invariant_of-self-2
invariant_of-self-2 c =
    rw c.in_ok-push.ensures.items (placed_more c.self.inside.positions c.set.new.self c.self.inside.numbers.items c.args.no.0 c.self.invariant
    (not_there _ _ c.self.view_is c.args.no.0 c.if-has.ensures.1) c.in_ok-set.ensures.others
    (c.in_ok-set.ensures.set ∙ (c.in_ok-position.ensures ∙ (c.len.ensures ∙ search rules))))
