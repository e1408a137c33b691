use Rattle.std.proofs.Common.{ap, ◌∙◌}
use Rattle.brep_numbering.specs.Slots.{Slots}
use Rattle.brep_numbering.proofs.SlotSteps.{has_slots, has_no_slots}
use Rattle.brep_numbering.proofs.slots.ItemSlots.find.Goals as goal

pub returns-then-eq-clause-found : goal.returns-then-eq-clause-found
returns-then-eq-clause-found c =
    has_slots c.args.self.now c.self.inside.lists c.deref.result.now (ap (λ (s : Slots). s.lists) c.self.view_is)
    (c.deref.ensures.value ∙ ap (λ (s : Slots). s.slots) c.self.view_is) c.args.list c.get-place.result
    c.get-place.ensures c.in-Some.field-0.now c.in-Some.ensures.lookup.3.0 c.in-Some.ensures.lookup.3.1 c.if-eq.ensures

pub returns-else-eq-clause-none : goal.returns-else-eq-clause-none
returns-else-eq-clause-none c =
    has_no_slots c.args.self.now c.self.inside.lists c.deref.result.now (ap (λ (s : Slots). s.lists) c.self.view_is)
    (c.deref.ensures.value ∙ ap (λ (s : Slots). s.slots) c.self.view_is) c.args.list c.get-place.result
    c.get-place.ensures c.in-Some.field-0.now c.in-Some.ensures.lookup.3.0 c.in-Some.ensures.lookup.3.1 c.if-eq.ensures
