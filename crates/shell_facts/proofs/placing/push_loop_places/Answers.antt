use Rattle.std.proofs.Common.{◌++◌, ◌∙◌, ap}
use Rattle.std.proofs.lemmas.List.{get_or_default}
use Rattle.std.specs.Option.{option_to_list}
use Rattle.shell_facts.specs.RowPlaces.{use_places}
use Rattle.shell_facts.proofs.Placed.{tuple_step, tuples_done}
use Rattle.shell_facts.proofs.placing.push_loop_places.Goals as goal

pub uses-preserved : goal.uses-preserved
uses-preserved c at =
    tuple_step (use_places c.args.solid.now c.args.face.now (record { at = at; forwards = c.args.forwards; loop = c.args.walk.now }))
    c.as_slice-uses.result.now _ c.uses.i c.uses.out.items c.push_place.new.out.items _ c.uses-test.true
    (get_or_default c.as_slice-uses.result.now c.uses.i _ _ c.uses-test.true) (c.uses.invariant at)
    (c.in_ok-push_place.ensures ∙ ap (λ ps. c.uses.out.items ++ ps) (c.place_of_use-place.ensures at))

pub returns : goal.returns
returns c at = tuples_done (use_places c.args.solid.now c.args.face.now (record { at = at; forwards = c.args.forwards; loop = c.args.walk.now }))
    c.as_slice-uses.result.now c.uses.i c.uses.out.items _ c.uses-test.false (c.uses.invariant at)
