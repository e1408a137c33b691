use Rattle.std.proofs.Common.{ap, ◌∙◌, refl}
use Rattle.entry_references.specs.Layout.{Own, value_at}
use Rattle.entry_references.specs.Refs.{number_of}
use Rattle.entry_references.proofs.NumberLists.{next_number}
use Rattle.entry_references.proofs.numbers.put_pointers.Goals as goal

pub places-preserved : goal.places-preserved
places-preserved c =
    next_number (λ k. number_of (value_at c.args.values.now k)) c.as_slice-place-items.result.now c.args.own.now.pointers c.places.place-index _
    c.places.numbers c.push_some.new.numbers c.number_in.result
    (c.as_slice-place-items.ensures ∙ ap (λ (o : Own). o.pointers) c.own.view_is) c.places-test.true refl c.number_in.ensures c.places.invariant
    c.in_ok-push_some.ensures.ok
