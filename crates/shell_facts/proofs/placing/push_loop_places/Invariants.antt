use Rattle.std.proofs.Common.{◌≡◌, ◌++◌, ◌+◌, drop, flat_map}
use Rattle.std.specs.List.{enumerate_from}
use Rattle.solid_data.specs.declared.solid.LoopAt.{LoopAt}
use Rattle.shell_facts.specs.RowPlaces.{use_places, loop_places}
use Rattle.shell_facts.proofs.placing.push_loop_places.Given as goal

abbrev pub invariant-uses : goal.invariant-uses
invariant-uses l = (at : LoopAt) →
    l.out.items ++ flat_map (use_places l.solid l.face (record { at = at; forwards = l.forwards; loop = l.walk })) (enumerate_from (l.i + 1) (drop l.i l.uses))
    ≡ l.fn.out.items ++ loop_places l.solid l.face (record { at = at; forwards = l.forwards; loop = l.walk })
